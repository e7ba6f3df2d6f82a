-- The blocks of the arrivals of a side, one arrival after the other.
use Rattle.std.proofs.Common.{◌≡◌, inl, inr, ◌<◌, ◌≤◌, ℕ, zero, suc, ◌+◌, List, [], ◌∷◌, ◌++◌, length, map, drop, slice_get, Some, None, refl, sym, ◌∙◌, ap, subst, arith}
use mathlib.Core.Path.{ap₂}
use Rattle.std.specs.List.{position_or_len}
use Rattle.std.proofs.lemmas.List.{map-append}
use Rattle.kat_model.specs.Members.{Has, HasNoDoubles}
use Rattle.flow_model.specs.Graphs.{branch, return}
use Rattle.flow_pieces.specs.PieceGraphs.{start, inside, arrival, leaving, is_same_point, Leave, Side, side_blocks, arrivals_of, points_at, number_of, arrival_jump, leaving_jump, block_without, block_at, side_graph}
use Rattle.flow_matches.specs.Working.SideViews.{arrival_blocks, after_arrival, blocks_of_arrivals}
use Rattle.flow_matches.proofs.DistinctBlocks.{distinct_arrivals}
use Rattle.flow_matches.proofs.PointPlaces.{leaves_at, points_from, shifted, points_are, arrived, arrival_first, leaving_first, arrival_later, leaving_later, arrival_number, leaving_number}

-- the next item of what is left of a list
next_left : {X : Type 0} (xs : List X) (a : ℕ) (x : X) (rest : List X) → drop a xs ≡ x ∷ rest → (slice_get xs a ≡ Some x) × (drop (suc a) xs ≡ rest)
next_left [] zero x rest e = absurd cc
next_left [] (suc a) x rest e = absurd cc
next_left (y ∷ xs) zero x rest e = (cc, cc)
next_left (y ∷ xs) (suc a) x rest e = next_left xs a x rest e

none_left : {X : Type 0} (xs : List X) (a : ℕ) → drop a xs ≡ [] → slice_get xs a ≡ None
none_left [] zero e = refl
none_left [] (suc a) e = refl
none_left (y ∷ xs) zero e = absurd cc
none_left (y ∷ xs) (suc a) e = none_left xs a e

module _ (s : Side) where
  -- the points of an arrival have their numbers from n on
  record AreNumbered (k n : ℕ) : Type 0 where
    pub arrivals : (d : ℕ) → d ≤ leaves_at s k → number_of s (arrival k d) ≡ n + (d + d)
    pub leavings : (d : ℕ) → d < leaves_at s k → number_of s (leaving k d) ≡ n + (d + d + 1)

  left_length : (xs : List Leave) (a : ℕ) (rest : List Leave) → drop a xs ≡ rest → a + length rest ≡ length xs → a ≤ length xs
  left_length xs a rest e whole = omega (arith, whole)

  blocks_left : (k n a : ℕ) (rest : List Leave) → AreNumbered k n → drop a (s.leaves k) ≡ rest → a + length rest ≡ leaves_at s k →
      map (block_at s) (points_from k a (length rest)) ≡ arrival_blocks (n + (a + a)) rest s.otherwise
  blocks_left k n a [] i e whole =
      ap (λ j. block_without (arrival_jump s k j (slice_get (s.leaves k) j)) ∷ []) (let q : a + 0 ≡ a = omega arith in q)
      ∙ ap (λ o. block_without (arrival_jump s k a o) ∷ []) (none_left (s.leaves k) a e)
  blocks_left k n a (leave ∷ rest) i e whole =
      let next = next_left (s.leaves k) a leave rest e in
      let moved : suc a ≡ a + 1 = omega arith in
      let more : a + 1 + length rest ≡ leaves_at s k = omega (arith, whole) in
      let places : n + (a + 1 + (a + 1)) ≡ n + (a + a) + 2 = omega arith in
      let yes_at : number_of s (leaving k a) ≡ n + (a + a) + 1 = omega (arith, i.leavings a (omega (arith, whole))) in
      let no_at : number_of s (arrival k (suc a)) ≡ n + (a + a) + 2 = omega (arith, i.arrivals (suc a) (omega (arith, whole))) in
      ap (map (block_at s)) (shifted k a (length rest))
      ∙ ap (λ o. block_without (arrival_jump s k a o) ∷ block_without (leaving_jump o) ∷ map (block_at s) (points_from k (a + 1) (length rest))) next.0
      ∙ ap₂ (λ x y. block_without (branch leave.condition x y) ∷ block_without (return leave.results) ∷ map (block_at s) (points_from k (a + 1) (length rest))) yes_at no_at
      ∙ ap (λ g. block_without (branch leave.condition (n + (a + a) + 1) (n + (a + a) + 2)) ∷ block_without (return leave.results) ∷ g)
      (blocks_left k n (a + 1) rest i (ap (λ j. drop j (s.leaves k)) (sym moved) ∙ next.1) more
      ∙ ap (λ j. arrival_blocks j rest s.otherwise) places)

  one_arrival : (k n : ℕ) → AreNumbered k n → map (block_at s) (points_at s k) ≡ arrival_blocks n (s.leaves k) s.otherwise
  one_arrival k n i =
      ap (map (block_at s)) (points_are s k)
      ∙ blocks_left k n 0 (s.leaves k) i refl (omega arith)
      ∙ ap (λ j. arrival_blocks j (s.leaves k) s.otherwise) (let e : n + (0 + 0) ≡ n = omega arith in e)

  -- the points of some arrivals have their numbers from n on
  record AreAllNumbered (ks : List ℕ) (n : ℕ) : Type 0 where
    pub arrivals : (k d : ℕ) → Has ks k → number_of s (arrival k d) ≡ n + position_or_len (is_same_point (arrival k d)) (arrived s ks)
    pub leavings : (k d : ℕ) → Has ks k → number_of s (leaving k d) ≡ n + position_or_len (is_same_point (leaving k d)) (arrived s ks)

  some_arrivals : (ks : List ℕ) (n : ℕ) → HasNoDoubles ks → AreAllNumbered ks n → map (block_at s) (arrived s ks) ≡ blocks_of_arrivals n (map s.leaves ks) s.otherwise
  some_arrivals [] n distinct i = refl
  some_arrivals (k ∷ ks) n distinct i =
      map-append (block_at s) (points_at s k) (arrived s ks)
      ∙ ap₂ (λ g h. g ++ h) (one_arrival k n own) (some_arrivals ks (after_arrival n (leaves_at s k)) distinct.1 others)
    where
      own : AreNumbered k n
      own = record {
        arrivals = λ d le. let at = i.arrivals k d (inl refl) in omega (arith, at, arrival_first s k d ks le);
        leavings = λ d lt. let at = i.leavings k d (inl refl) in omega (arith, at, leaving_first s k d ks lt);
      }

      apart : (l : ℕ) → Has ks l → l ≡ k → ⊥
      apart l h e = distinct.0 (subst (Has ks) e h)

      others : AreAllNumbered ks (after_arrival n (leaves_at s k))
      others = record {
        arrivals = λ l d h. let at = i.arrivals l d (inr h) in omega (arith, at, arrival_later s l d k ks (apart l h));
        leavings = λ l d h. let at = i.leavings l d (inr h) in omega (arith, at, leaving_later s l d k ks (apart l h));
      }

  -- the graph of a side: its start, the blocks inside, and the arrivals
  pub graph_in_parts : side_graph s ≡ block_at s start ∷ map (λ k. block_at s (inside k)) (side_blocks s) ++ blocks_of_arrivals (length (side_blocks s) + 1) (map s.leaves (arrivals_of s.graph s.is_matched (side_blocks s))) s.otherwise
  graph_in_parts =
      let ks = side_blocks s in
      let ls = arrivals_of s.graph s.is_matched ks in
      ap (λ g. block_at s start ∷ g)
      (map-append (block_at s) (map inside ks) (arrived s ls)
      ∙ ap₂ (λ g h. g ++ h) (mapped_twice ks)
      (some_arrivals ls (length ks + 1) (distinct_arrivals s.graph s.is_matched ks)
      (record {
        arrivals = λ k d h. let e = arrival_number s k d in omega (arith, e);
        leavings = λ k d h. let e = leaving_number s k d in omega (arith, e);
      })))
    where
      mapped_twice : (ks : List ℕ) → map (block_at s) (map inside ks) ≡ map (λ k. block_at s (inside k)) ks
      mapped_twice [] = refl
      mapped_twice (k ∷ ks) = ap (λ g. block_at s (inside k) ∷ g) (mapped_twice ks)
