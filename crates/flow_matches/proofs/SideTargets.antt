-- The table of numbers of a side has the number of the point to which a jump to each block leads.
use Rattle.std.proofs.Common.{◌≡◌, ◌⊎◌, inl, inr, ⊎_elim, ◌<◌, ◌≤◌, ℕ, suc, ◌+◌, Bool, true, false, nat_eq, List, [], ◌∷◌, length, map, replicate, get_or, slice_set, slice_get, unwrap_or, if◌then◌else◌, refl, sym, ◌∙◌, ap, subst, arith, length-append}
use Rattle.std.specs.List.{list_any, position_or_len}
use Rattle.std.proofs.lemmas.Bool.{false≢true, eqb-true, eq-eqb, ne_eqb, cases_eq, cases_lt}
use Rattle.std.proofs.lemmas.List.{length-set, get_or-set_same, get_or-set_other, get_or_past, get_or-replicate, length-replicate}
use Rattle.std.proofs.lemmas.Option.{unwrap_or-slice_get}
use Rattle.kat_model.specs.Members.{Has, HasNoDoubles}
use Rattle.kat_model.proofs.Lists.{has_any, any_has}
use Rattle.flow_pieces.specs.PieceGraphs.{arrival, inside, is_same_point, Side, side_blocks, arrivals_of, points_at, points, number_of, target_of}
use Rattle.flow_matches.specs.Working.SideViews.{after_arrival, after_arrivals, number_blocks, number_all_arrivals}
use Rattle.flow_matches.proofs.DistinctBlocks.{distinct_blocks, distinct_arrivals, arrival_stops}
use Rattle.flow_matches.proofs.PointPlaces.{place_here, place_later, leaves_at, points_at_length, arrived, inside_number, inside_missing, arrival_missing, arrival_first, arrival_later, arrival_number}

-- ---- the table of the blocks inside

module _ (stops : ℕ → Bool) (k d : ℕ) where
  pub blocks_length : (n : ℕ) (ks ts : List ℕ) → length (number_blocks stops n ks ts) ≡ length ts
  blocks_length n [] ts = refl
  blocks_length n (j ∷ ks) ts = blocks_length (n + 1) ks (if stops j then ts else slice_set ts j n) ∙ by_stop (stops j)
    where
      by_stop : (b : Bool) → length (if b then ts else slice_set ts j n) ≡ length ts
      by_stop true = refl
      by_stop false = length-set ts j n

  -- one number does not change that of another block
  kept_one : (b : Bool) (j n : ℕ) (ts : List ℕ) → (b ≡ false → j ≡ k → ⊥) → get_or (if b then ts else slice_set ts j n) k d ≡ get_or ts k d
  kept_one true j n ts other = refl
  kept_one false j n ts other = get_or-set_other ts j k n d (λ e. other refl (sym e))

  stop_kept : (n : ℕ) (ks ts : List ℕ) → stops k ≡ true → get_or (number_blocks stops n ks ts) k d ≡ get_or ts k d
  stop_kept n [] ts e = refl
  stop_kept n (j ∷ ks) ts e =
      stop_kept (n + 1) ks (if stops j then ts else slice_set ts j n) e
      ∙ kept_one (stops j) j n ts (λ no_stop same. false≢true (sym no_stop ∙ ap stops same ∙ e))

  other_kept : (n : ℕ) (ks ts : List ℕ) → (Has ks k → ⊥) → get_or (number_blocks stops n ks ts) k d ≡ get_or ts k d
  other_kept n [] ts off = refl
  other_kept n (j ∷ ks) ts off =
      other_kept (n + 1) ks (if stops j then ts else slice_set ts j n) (λ h. off (inr h))
      ∙ kept_one (stops j) j n ts (λ no_stop same. off (inl same))

  block_set : (n : ℕ) (ks ts : List ℕ) → stops k ≡ false → HasNoDoubles ks → Has ks k → k < length ts → get_or (number_blocks stops n ks ts) k d ≡ n + position_or_len (nat_eq k) ks
  block_set n [] ts e distinct h lt = absurd h
  block_set n (j ∷ ks) ts e distinct h lt =
      by_order (cases_eq j k) h
      (λ m. block_set (n + 1) ks (if stops j then ts else slice_set ts j n) e distinct.1 m (subst (λ i. k < i) (sym (by_stop (stops j))) lt))
    where
      by_stop : (b : Bool) → length (if b then ts else slice_set ts j n) ≡ length ts
      by_stop true = refl
      by_stop false = length-set ts j n

      by_order : (j ≡ k) ⊎ (j ≡ k → ⊥) → Has (j ∷ ks) k →
          (Has ks k → get_or (number_blocks stops (n + 1) ks (if stops j then ts else slice_set ts j n)) k d ≡ n + 1 + position_or_len (nat_eq k) ks) →
          get_or (number_blocks stops n (j ∷ ks) ts) k d ≡ n + position_or_len (nat_eq k) (j ∷ ks)
      by_order (inl same) m later =
          other_kept (n + 1) ks (if stops j then ts else slice_set ts j n) (λ i. distinct.0 (subst (Has ks) (sym same) i))
          ∙ ap (λ b. get_or (if b then ts else slice_set ts j n) k d) (ap stops same ∙ e)
          ∙ ap (λ i. get_or (slice_set ts j n) i d) (sym same)
          ∙ get_or-set_same ts j n d (subst (λ i. i < length ts) (sym same) lt)
          ∙ (let first = place_here (nat_eq k) j ks (eq-eqb k j (sym same)) in omega (arith, first))
      by_order (inr other) m later =
          let at = later (⊎_elim (λ same. absurd (other same)) (λ i. i) m) in
          let after = place_later (nat_eq k) j ks (ne_eqb k j (λ same. other (sym same))) in
          omega (arith, at, after)

-- ---- the table of arrivals

pub arrivals_length : (n : ℕ) (ks ls ts : List ℕ) → length (number_all_arrivals n ks ls ts) ≡ length ts
arrivals_length n [] ls ts = refl
arrivals_length n (k ∷ ks) [] ts = refl
arrivals_length n (k ∷ ks) (l ∷ ls) ts =
    arrivals_length (after_arrival n l) ks ls (slice_set ts k n) ∙ length-set ts k n

arrival_kept : (k d n : ℕ) (ks ls ts : List ℕ) → (Has ks k → ⊥) → get_or (number_all_arrivals n ks ls ts) k d ≡ get_or ts k d
arrival_kept k d n [] ls ts off = refl
arrival_kept k d n (j ∷ ks) [] ts off = refl
arrival_kept k d n (j ∷ ks) (l ∷ ls) ts off =
    arrival_kept k d (after_arrival n l) ks ls (slice_set ts j n) (λ h. off (inr h))
    ∙ get_or-set_other ts j k n d (λ e. off (inl (sym e)))

module _ (s : Side) where
  arrival_set : (k d n : ℕ) (ks ts : List ℕ) → HasNoDoubles ks → Has ks k → k < length ts →
      get_or (number_all_arrivals n ks (map (leaves_at s) ks) ts) k d ≡ n + position_or_len (is_same_point (arrival k 0)) (arrived s ks)
  arrival_set k d n [] ts distinct h lt = absurd h
  arrival_set k d n (j ∷ ks) ts distinct h lt =
      by_order (cases_eq j k) h
      (λ m. arrival_set k d (after_arrival n (leaves_at s j)) ks (slice_set ts j n) distinct.1 m (subst (λ i. k < i) (sym (length-set ts j n)) lt))
    where
      by_order : (j ≡ k) ⊎ (j ≡ k → ⊥) → Has (j ∷ ks) k →
          (Has ks k → get_or (number_all_arrivals (after_arrival n (leaves_at s j)) ks (map (leaves_at s) ks) (slice_set ts j n)) k d ≡ after_arrival n (leaves_at s j) + position_or_len (is_same_point (arrival k 0)) (arrived s ks)) →
          get_or (number_all_arrivals n (j ∷ ks) (map (leaves_at s) (j ∷ ks)) ts) k d ≡ n + position_or_len (is_same_point (arrival k 0)) (arrived s (j ∷ ks))
      by_order (inl same) m later =
          arrival_kept k d (after_arrival n (leaves_at s j)) ks (map (leaves_at s) ks) (slice_set ts j n) (λ i. distinct.0 (subst (Has ks) (sym same) i))
          ∙ ap (λ i. get_or (slice_set ts j n) i d) (sym same)
          ∙ get_or-set_same ts j n d (subst (λ i. i < length ts) (sym same) lt)
          ∙ (let first = arrival_first s j 0 ks (omega arith) in
          let moved = ap (λ i. position_or_len (is_same_point (arrival i 0)) (arrived s (j ∷ ks))) same in
          omega (arith, first, moved))
      by_order (inr other) m later =
          let at = later (⊎_elim (λ same. absurd (other same)) (λ i. i) m) in
          let after = arrival_later s k 0 j ks (λ same. other (sym same)) in
          omega (arith, at, after)

  pub after_all : (n : ℕ) (ks : List ℕ) → after_arrivals n (map (leaves_at s) ks) ≡ n + length (arrived s ks)
  after_all n [] = omega arith
  after_all n (k ∷ ks) =
      let rest = after_all (after_arrival n (leaves_at s k)) ks in
      let own = points_at_length s k in
      omega (arith, rest, own, length-append (points_at s k) (arrived s ks))

  -- the number of all points
  pub all_points : after_arrivals (length (side_blocks s) + 1) (map (leaves_at s) (arrivals_of s.graph s.is_matched (side_blocks s))) ≡ length (points s)
  all_points =
      let ks = side_blocks s in
      let ls = arrivals_of s.graph s.is_matched ks in
      omega (arith, after_all (length ks + 1) ls, length-append (map inside ks) (arrived s ls), mapped_length ks)
    where
      mapped_length : (ks : List ℕ) → length (map inside ks) ≡ length ks
      mapped_length [] = refl
      mapped_length (l ∷ ks) = ap suc (mapped_length ks)

  module _ (m : ℕ) (inside_below : (k : ℕ) → Has (side_blocks s) k → k < m) (arrivals_below : (k : ℕ) → Has (arrivals_of s.graph s.is_matched (side_blocks s)) k → k < m) where
    abbrev count : ℕ
    count = length (points s)

    abbrev ks : List ℕ
    ks = side_blocks s

    abbrev ls : List ℕ
    ls = arrivals_of s.graph s.is_matched (side_blocks s)

    abbrev first : List ℕ
    first = number_blocks s.is_matched 1 ks (replicate m count)

    abbrev table : List ℕ
    table = number_all_arrivals (length ks + 1) ls (map (leaves_at s) ls) first

    none_set : (k : ℕ) → get_or (replicate m count) k count ≡ count
    none_set k = by_order (cases_lt k m)
      where
        by_order : (k < m) ⊎ (m ≤ k) → get_or (replicate m count) k count ≡ count
        by_order (inl lt) = get_or-replicate m k count count lt
        by_order (inr le) = get_or_past (replicate m count) k count (omega (arith, le, length-replicate m count))

    first_length : length first ≡ m
    first_length = blocks_length s.is_matched 0 0 1 ks (replicate m count) ∙ length-replicate m count

    matched_target : (k : ℕ) → s.is_matched k ≡ true → get_or table k count ≡ number_of s (arrival k 0)
    matched_target k e = by_test (list_any (nat_eq k) ls) refl
      where
        by_test : (b : Bool) → list_any (nat_eq k) ls ≡ b → get_or table k count ≡ number_of s (arrival k 0)
        by_test true t =
            let found = has_any (nat_eq k) ls t in
            let h : Has ls k = subst (Has ls) (sym (eqb-true k found.0 found.2)) found.1 in
            let set = arrival_set k count (length ks + 1) ls first (distinct_arrivals s.graph s.is_matched ks) h (subst (λ i. k < i) (sym first_length) (arrivals_below k h)) in
            let number = arrival_number s k 0 in
            omega (arith, set, number)
        by_test false t =
            let off : Has ls k → ⊥ = λ h. false≢true (sym t ∙ any_has (nat_eq k) ls k h (eq-eqb k k refl)) in
            arrival_kept k count (length ks + 1) ls (map (leaves_at s) ls) first off
            ∙ stop_kept s.is_matched k count 1 ks (replicate m count) e
            ∙ none_set k
            ∙ sym (arrival_missing s k 0 off)

    inside_target : (k : ℕ) → s.is_matched k ≡ false → get_or table k count ≡ number_of s (inside k)
    inside_target k e =
        arrival_kept k count (length ks + 1) ls (map (leaves_at s) ls) first (λ h. false≢true (sym e ∙ arrival_stops s.graph s.is_matched ks k h))
        ∙ by_test (list_any (nat_eq k) ks) refl
      where
        by_test : (b : Bool) → list_any (nat_eq k) ks ≡ b → get_or first k count ≡ number_of s (inside k)
        by_test true t =
            let found = has_any (nat_eq k) ks t in
            let h : Has ks k = subst (Has ks) (sym (eqb-true k found.0 found.2)) found.1 in
            block_set s.is_matched k count 1 ks (replicate m count) e (distinct_blocks s.graph s.is_matched s.first) h (subst (λ i. k < i) (sym (length-replicate m count)) (inside_below k h))
            ∙ sym (inside_number s k t)
        by_test false t =
            other_kept s.is_matched k count 1 ks (replicate m count) (λ h. false≢true (sym t ∙ any_has (nat_eq k) ks k h (eq-eqb k k refl)))
            ∙ none_set k
            ∙ sym (inside_missing s k t)

    pub table_targets : (k : ℕ) → unwrap_or (slice_get table k) count ≡ target_of s k
    table_targets k = unwrap_or-slice_get table k count ∙ by_test (s.is_matched k) refl
      where
        by_test : (b : Bool) → s.is_matched k ≡ b → get_or table k count ≡ number_of s (if b then arrival k 0 else inside k)
        by_test true e = matched_target k e
        by_test false e = inside_target k e
