-- Steps of the loops that number and write the points of a side, each with what is left to do.
use Rattle.std.proofs.Common.{◌≡◌, ◌⊎◌, inl, inr, ◌<◌, ◌≤◌, ℕ, suc, ◌+◌, Bool, true, false, nat_eq, List, [], ◌∷◌, ◌++◌, length, map, drop, get_or, slice_set, if◌then◌else◌, refl, sym, ap, ◌∙◌, arith, append_assoc, length-append}
use Rattle.std.specs.List.{list_any, position_or_len}
use Rattle.std.proofs.lemmas.Bool.{eq-eqb}
use Rattle.std.proofs.lemmas.List.{drop_more, drop_all, nil_from_length}
use Rattle.flow_model.specs.Expressions.{ExprTree}
use Rattle.flow_model.specs.Graphs.{return, Graph}
use Rattle.flow_pieces.specs.PieceGraphs.{inside, Leave, Side, side_blocks, points, number_of, block_without, Exit, leaves_from}
use Rattle.flow_matches.specs.Working.SideViews.{leave_blocks, arrival_blocks, after_arrival, after_arrivals, blocks_of_arrivals, number_blocks, number_all_arrivals}
use Rattle.flow_matches.proofs.DistinctBlocks.{first_of_blocks}
use Rattle.flow_matches.proofs.PointPlaces.{inside_number, inside_missing, place_here}

append_none : {X : Type 0} (xs : List X) → xs ++ [] ≡ xs
append_none [] = refl
append_none (x ∷ xs) = ap (λ ys. x ∷ ys) (append_none xs)

-- ---- numbers of the blocks inside

pub numbered_next : (stops : ℕ → Bool) (ks : List ℕ) (i b d : ℕ) (old new r : List ℕ) → i < length ks → b ≡ get_or ks i d → new ≡ (if stops b then old else slice_set old b (i + 1)) →
    number_blocks stops (i + 1) (drop i ks) old ≡ r → number_blocks stops (i + 1 + 1) (drop (i + 1) ks) new ≡ r
numbered_next stops ks i b d old new r lt is set so_far =
    ap (number_blocks stops (i + 1 + 1) (drop (i + 1) ks)) (set ∙ ap (λ k. if stops k then old else slice_set old k (i + 1)) is)
    ∙ sym (ap (λ l. number_blocks stops (i + 1) l old) (drop_more ks i d lt))
    ∙ so_far

pub numbered_end : (stops : ℕ → Bool) (ks : List ℕ) (i : ℕ) (old r : List ℕ) → length ks ≤ i → number_blocks stops (i + 1) (drop i ks) old ≡ r → old ≡ r
numbered_end stops ks i old r le so_far = sym (ap (λ l. number_blocks stops (i + 1) l old) (drop_all i ks le)) ∙ so_far

-- ---- numbers of arrivals

module _ {X : Type 0} (f : X → ℕ) where
  pub counted_next : (xs : List X) (i n m : ℕ) (d : X) (r : ℕ) → i < length xs → m ≡ after_arrival n (f (get_or xs i d)) → after_arrivals n (map f (drop i xs)) ≡ r → after_arrivals m (map f (drop (i + 1) xs)) ≡ r
  counted_next xs i n m d r lt is so_far =
      ap (λ j. after_arrivals j (map f (drop (i + 1) xs))) is ∙ sym (ap (λ l. after_arrivals n (map f l)) (drop_more xs i d lt)) ∙ so_far

  pub counted_end : (xs : List X) (i n : ℕ) (r : ℕ) → length xs ≤ i → after_arrivals n (map f (drop i xs)) ≡ r → n ≡ r
  counted_end xs i n r le so_far = sym (ap (λ l. after_arrivals n (map f l)) (drop_all i xs le)) ∙ so_far

  pub arrival_next : (left ks : List ℕ) (k : ℕ) (right xs : List X) (x : X) (n m : ℕ) (old new r : List ℕ) → left ≡ k ∷ ks → right ≡ x ∷ xs → new ≡ slice_set old k n → m ≡ after_arrival n (f x) →
      number_all_arrivals n left (map f right) old ≡ r → number_all_arrivals m ks (map f xs) new ≡ r
  arrival_next left ks k right xs x n m old new r is_left is_right set is so_far =
      ap (number_all_arrivals m ks (map f xs)) set
      ∙ ap (λ j. number_all_arrivals j ks (map f xs) (slice_set old k n)) is
      ∙ sym (ap (λ l. number_all_arrivals n l (map f right) old) is_left ∙ ap (λ l. number_all_arrivals n (k ∷ ks) (map f l) old) is_right)
      ∙ so_far

  pub none_left : (left : List ℕ) (right : List X) (n : ℕ) (old r : List ℕ) → length left ≡ 0 → number_all_arrivals n left (map f right) old ≡ r → old ≡ r
  none_left left right n old r none so_far = sym (ap (λ l. number_all_arrivals n l (map f right) old) (nil_from_length left none)) ∙ so_far

  pub none_right : (left : List ℕ) (right : List X) (n : ℕ) (old r : List ℕ) → length right ≡ 0 → number_all_arrivals n left (map f right) old ≡ r → old ≡ r
  none_right left right n old r none so_far =
      sym (ap (λ l. number_all_arrivals n left (map f l) old) (nil_from_length right none) ∙ no_more left) ∙ so_far
    where
      no_more : (ks : List ℕ) → number_all_arrivals n ks (map f []) old ≡ old
      no_more [] = refl
      no_more (k ∷ ks) = refl

-- ---- blocks of arrivals

module _ {X : Type 0} (f : X → Leave) (es : List ExprTree) where
  pub leave_next : (xs : List X) (i : ℕ) (d : X) (old new r : Graph) → i < length xs → new ≡ old ++ leave_blocks (length old) (f (get_or xs i d)) →
      old ++ arrival_blocks (length old) (map f (drop i xs)) es ≡ r → new ++ arrival_blocks (length new) (map f (drop (i + 1) xs)) es ≡ r
  leave_next xs i d old new r lt added so_far =
      let x = get_or xs i d in
      let longer : length new ≡ length old + 2 = ap length added ∙ length-append old (leave_blocks (length old) (f x)) in
      ap (λ n. new ++ arrival_blocks n (map f (drop (i + 1) xs)) es) longer
      ∙ ap (λ g. g ++ arrival_blocks (length old + 2) (map f (drop (i + 1) xs)) es) added
      ∙ append_assoc old (leave_blocks (length old) (f x)) (arrival_blocks (length old + 2) (map f (drop (i + 1) xs)) es)
      ∙ sym (ap (λ l. old ++ arrival_blocks (length old) (map f l) es) (drop_more xs i d lt))
      ∙ so_far

  pub leave_end : (xs : List X) (i : ℕ) (old new r : Graph) → length xs ≤ i → new ≡ old ++ block_without (return es) ∷ [] →
      old ++ arrival_blocks (length old) (map f (drop i xs)) es ≡ r → new ≡ r
  leave_end xs i old new r le added so_far =
      added ∙ sym (ap (λ l. old ++ arrival_blocks (length old) (map f l) es) (drop_all i xs le)) ∙ so_far

arrival_length : (n : ℕ) (ls : List Leave) (es : List ExprTree) → length (arrival_blocks n ls es) ≡ length ls + length ls + 1
arrival_length n [] es = refl
arrival_length n (l ∷ ls) es = omega (arith, arrival_length (n + 2) ls es)

module _ {X : Type 0} (f : X → List Leave) (es : List ExprTree) where
  pub arrivals_next : (xs : List X) (i : ℕ) (d : X) (old new r : Graph) → i < length xs → new ≡ old ++ arrival_blocks (length old) (f (get_or xs i d)) es →
      old ++ blocks_of_arrivals (length old) (map f (drop i xs)) es ≡ r → new ++ blocks_of_arrivals (length new) (map f (drop (i + 1) xs)) es ≡ r
  arrivals_next xs i d old new r lt added so_far =
      let x = get_or xs i d in
      let longer : length new ≡ after_arrival (length old) (length (f x)) = omega (arith, ap length added, length-append old (arrival_blocks (length old) (f x) es), arrival_length (length old) (f x) es) in
      ap (λ n. new ++ blocks_of_arrivals n (map f (drop (i + 1) xs)) es) longer
      ∙ ap (λ g. g ++ blocks_of_arrivals (after_arrival (length old) (length (f x))) (map f (drop (i + 1) xs)) es) added
      ∙ append_assoc old (arrival_blocks (length old) (f x) es) (blocks_of_arrivals (after_arrival (length old) (length (f x))) (map f (drop (i + 1) xs)) es)
      ∙ sym (ap (λ l. old ++ blocks_of_arrivals (length old) (map f l) es) (drop_more xs i d lt))
      ∙ so_far

  pub arrivals_end : (xs : List X) (i : ℕ) (old r : Graph) → length xs ≤ i → old ++ blocks_of_arrivals (length old) (map f (drop i xs)) es ≡ r → old ≡ r
  arrivals_end xs i old r le so_far =
      sym (append_none old) ∙ sym (ap (λ l. old ++ blocks_of_arrivals (length old) (map f l) es) (drop_all i xs le)) ∙ so_far

-- ---- the first block inside

pub no_first : (s : Side) → length (side_blocks s) ≡ 0 → number_of s (inside s.first) ≡ length (points s)
no_first s none =
    inside_missing s s.first (ap (list_any (nat_eq s.first)) (nil_from_length (side_blocks s) none))

pub first_is_one : (s : Side) → (length (side_blocks s) ≡ 0 → ⊥) → number_of s (inside s.first) ≡ 1
first_is_one s some = by_blocks (first_of_blocks s.graph s.is_matched s.first)
  where
    by_blocks : (side_blocks s ≡ []) ⊎ ((rest : List ℕ) × (side_blocks s ≡ s.first ∷ rest)) → number_of s (inside s.first) ≡ 1
    by_blocks (inl e) = absurd (some (ap length e))
    by_blocks (inr (rest, e)) =
        let own = eq-eqb s.first s.first refl in
        let place = ap (position_or_len (nat_eq s.first)) e ∙ place_here (nat_eq s.first) s.first rest own in
        let number = inside_number s s.first (ap (list_any (nat_eq s.first)) e ∙ rw own refl) in
        omega (arith, number, place)

-- ---- exits at a block

module _ (leave : ℕ → Exit → Leave) (has : Exit → Bool) where
  pub exit_taken : (es : List Exit) (i : ℕ) (d : Exit) (old new r : List Leave) → i < length es → has (get_or es i d) ≡ true → new ≡ old ++ leave i (get_or es i d) ∷ [] →
      old ++ leaves_from leave has i (drop i es) ≡ r → new ++ leaves_from leave has (i + 1) (drop (i + 1) es) ≡ r
  exit_taken es i d old new r lt passes added so_far =
      let e = get_or es i d in
      let rest = leaves_from leave has (i + 1) (drop (i + 1) es) in
      let moved : suc i ≡ i + 1 = omega arith in
      ap (λ ls. ls ++ rest) added
      ∙ append_assoc old (leave i e ∷ []) rest
      ∙ sym (ap (λ l. old ++ leaves_from leave has i l) (drop_more es i d lt)
      ∙ ap (λ b. old ++ (if b then leave i e ∷ leaves_from leave has (suc i) (drop (i + 1) es) else leaves_from leave has (suc i) (drop (i + 1) es))) passes
      ∙ ap (λ j. old ++ leave i e ∷ leaves_from leave has j (drop (i + 1) es)) moved)
      ∙ so_far

  pub exit_skipped : (es : List Exit) (i : ℕ) (d : Exit) (old r : List Leave) → i < length es → has (get_or es i d) ≡ false →
      old ++ leaves_from leave has i (drop i es) ≡ r → old ++ leaves_from leave has (i + 1) (drop (i + 1) es) ≡ r
  exit_skipped es i d old r lt fails so_far =
      let e = get_or es i d in
      let moved : suc i ≡ i + 1 = omega arith in
      sym (ap (λ l. old ++ leaves_from leave has i l) (drop_more es i d lt)
      ∙ ap (λ b. old ++ (if b then leave i e ∷ leaves_from leave has (suc i) (drop (i + 1) es) else leaves_from leave has (suc i) (drop (i + 1) es))) fails
      ∙ ap (λ j. old ++ leaves_from leave has j (drop (i + 1) es)) moved)
      ∙ so_far

  pub exits_end : (es : List Exit) (i : ℕ) (old r : List Leave) → length es ≤ i → old ++ leaves_from leave has i (drop i es) ≡ r → old ≡ r
  exits_end es i old r le so_far =
      sym (append_none old) ∙ sym (ap (λ l. old ++ leaves_from leave has i l) (drop_all i es le)) ∙ so_far
