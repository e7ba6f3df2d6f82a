-- The number of a point of a side is that of its block in the graph of the side.
use Rattle.std.proofs.Common.{◌≡◌, ◌⊎◌, inl, inr, ℕ, ◌<◌, Bool, true, false, nat_eq, nat_lt, List, [], ◌∷◌, length, map, flat_map, position, option_map, unwrap_or, Some, None, slice_get, refl, sym, ◌∙◌, ap, ap₂, subst, arith}
use Rattle.std.specs.List.{list_any, position_or_len, range_with_len}
use Rattle.std.proofs.lemmas.Bool.{false≢true, eqb-true, eq-eqb, and_parts, and_from, or_parts}
use Rattle.std.proofs.lemmas.Bool.Decides.{nat_tests}
use Rattle.std.proofs.lemmas.Option.{slice_get-map, slice_get_past}
use Rattle.kat_model.specs.Members.{Has}
use Rattle.kat_model.proofs.Lists.{has_left, has_right, has_any, map_has, flat_map_has}
use Rattle.kat_model.proofs.MemberPlaces.{position_of_member}
use Rattle.flow_places.proofs.Walked.{in_range}
use Rattle.flow_pieces.specs.PieceGraphs.{Point, start, inside, arrival, leaving, is_same_point, Side, side_blocks, arrivals_of, points_at, points, number_of, block_at, side_graph}

-- ---- the test of points

point_same : (x y : Point) → is_same_point x y ≡ true → x ≡ y
point_same start start e = refl
point_same start (inside l) e = absurd (false≢true e)
point_same start (arrival l j) e = absurd (false≢true e)
point_same start (leaving l j) e = absurd (false≢true e)
point_same (inside k) start e = absurd (false≢true e)
point_same (inside k) (inside l) e = ap inside (eqb-true k l e)
point_same (inside k) (arrival l j) e = absurd (false≢true e)
point_same (inside k) (leaving l j) e = absurd (false≢true e)
point_same (arrival k i) start e = absurd (false≢true e)
point_same (arrival k i) (inside l) e = absurd (false≢true e)
point_same (arrival k i) (arrival l j) e =
    let both = and_parts (nat_eq k l) (nat_eq i j) e in ap₂ arrival (eqb-true k l both.0) (eqb-true i j both.1)
point_same (arrival k i) (leaving l j) e = absurd (false≢true e)
point_same (leaving k i) start e = absurd (false≢true e)
point_same (leaving k i) (inside l) e = absurd (false≢true e)
point_same (leaving k i) (arrival l j) e = absurd (false≢true e)
point_same (leaving k i) (leaving l j) e =
    let both = and_parts (nat_eq k l) (nat_eq i j) e in ap₂ leaving (eqb-true k l both.0) (eqb-true i j both.1)

point_own : (x : Point) → is_same_point x x ≡ true
point_own start = refl
point_own (inside k) = eq-eqb k k refl
point_own (arrival k i) = and_from (nat_eq k k) (nat_eq i i) (eq-eqb k k refl) (eq-eqb i i refl)
point_own (leaving k i) = and_from (nat_eq k k) (nat_eq i i) (eq-eqb k k refl) (eq-eqb i i refl)

-- ---- numbers

-- where no element passes, the test finds no position
none_passes : {X : Type 0} (p : X → Bool) (xs : List X) → list_any p xs ≡ false → position_or_len p xs ≡ length xs
none_passes p [] e = refl
none_passes p (x ∷ xs) e =
    let here : p x ≡ false = (or_parts (p x) (list_any p xs) e).0 in
    let later = none_passes p xs (or_parts (p x) (list_any p xs) e).1 in
    rw here (omega (arith, later))

no_position : {X : Type 0} (p : X → Bool) (xs : List X) → list_any p xs ≡ false → position p xs ≡ None
no_position p xs e =
    let whole = none_passes p xs e in
    let past : nat_lt (position_or_len p xs) (length xs) ≡ false = grind (arith, nat_tests, whole) in
    rw past refl

module _ (side : Side) where
  -- a point that is listed has its place
  pub listed_number : (x : Point) → Has (points side) x → slice_get (points side) (number_of side x) ≡ Some x
  listed_number x h =
      let p = position_of_member is_same_point point_same point_own (points side) x h in
      ap (λ o. slice_get (points side) (unwrap_or o (length (points side)))) p.1 ∙ p.2

  -- each point has its place or none
  pub any_number : (x : Point) → (slice_get (points side) (number_of side x) ≡ Some x) ⊎ (slice_get (points side) (number_of side x) ≡ None)
  any_number x = by_test (list_any (is_same_point x) (points side)) refl
    where
      by_test : (b : Bool) → list_any (is_same_point x) (points side) ≡ b → (slice_get (points side) (number_of side x) ≡ Some x) ⊎ (slice_get (points side) (number_of side x) ≡ None)
      by_test true e =
          let h = has_any (is_same_point x) (points side) e in
          let same : x ≡ h.0 = point_same x h.0 h.2 in
          inl (listed_number x (subst (Has (points side)) (sym same) h.1))
      by_test false e =
          inr (ap (λ o. slice_get (points side) (unwrap_or o (length (points side)))) (no_position (is_same_point x) (points side) e)
          ∙ slice_get_past (points side) (length (points side)) (omega arith))

  -- the block of a point that has its place
  pub block_of_point : (k : ℕ) (x : Point) → slice_get (points side) k ≡ Some x → slice_get (side_graph side) k ≡ Some (block_at side x)
  block_of_point k x e = slice_get-map (block_at side) (points side) k ∙ ap (option_map (block_at side)) e

  pub no_block_there : (k : ℕ) → slice_get (points side) k ≡ None → slice_get (side_graph side) k ≡ None
  no_block_there k e = slice_get-map (block_at side) (points side) k ∙ ap (option_map (block_at side)) e

  -- ---- listed points

  abbrev pub arrivals : List ℕ
  arrivals = arrivals_of side.graph side.is_matched (side_blocks side)

  pub inside_listed : (k : ℕ) → Has (side_blocks side) k → Has (points side) (inside k)
  inside_listed k h =
      inr (has_left (map inside (side_blocks side)) (flat_map (points_at side) arrivals) (inside k) (map_has inside (side_blocks side) k h))

  at_arrival : (k : ℕ) (x : Point) → Has arrivals k → Has (points_at side k) x → Has (points side) x
  at_arrival k x a h =
      inr (has_right (map inside (side_blocks side)) (flat_map (points_at side) arrivals) x (flat_map_has (points_at side) arrivals k x a h))

  pub leaving_listed : (k i : ℕ) → Has arrivals k → i < length (side.leaves k) → Has (points side) (leaving k i)
  leaving_listed k i a lt =
      at_arrival k (leaving k i) a
      (has_left (flat_map (λ j. arrival k j ∷ leaving k j ∷ []) (range_with_len 0 (length (side.leaves k)))) (arrival k (length (side.leaves k)) ∷ []) (leaving k i)
      (flat_map_has (λ j. arrival k j ∷ leaving k j ∷ []) (range_with_len 0 (length (side.leaves k))) i (leaving k i) (in_range 0 (length (side.leaves k)) i (omega arith) (omega (arith, lt))) (inr (inl refl))))

  pub arrival_listed : (k i : ℕ) → Has arrivals k → i < length (side.leaves k) → Has (points side) (arrival k i)
  arrival_listed k i a lt =
      at_arrival k (arrival k i) a
      (has_left (flat_map (λ j. arrival k j ∷ leaving k j ∷ []) (range_with_len 0 (length (side.leaves k)))) (arrival k (length (side.leaves k)) ∷ []) (arrival k i)
      (flat_map_has (λ j. arrival k j ∷ leaving k j ∷ []) (range_with_len 0 (length (side.leaves k))) i (arrival k i) (in_range 0 (length (side.leaves k)) i (omega arith) (omega (arith, lt))) (inl refl)))

  pub last_arrival_listed : (k : ℕ) → Has arrivals k → Has (points side) (arrival k (length (side.leaves k)))
  last_arrival_listed k a =
      at_arrival k (arrival k (length (side.leaves k))) a
      (has_right (flat_map (λ j. arrival k j ∷ leaving k j ∷ []) (range_with_len 0 (length (side.leaves k)))) (arrival k (length (side.leaves k)) ∷ []) (arrival k (length (side.leaves k))) (inl refl))
