-- Parts that begin in a range and end at a position: where one ends, where none does, and the first of all.
use Rattle.std.proofs.Common.{◌≡◌, ℕ, zero, suc, ◌+◌, ◌<◌, ◌≤◌, ⊎_elim, length, Bool, true, false, ◌&&◌, refl, ap, ◌∙◌, subst, arith}
use Rattle.std.proofs.lemmas.Bool.{and_parts, and_from, and_cases, or_cases, or_parts, both_ways, leb-true, le-leb, ltb-true, lt-ltb, cases_lt, cases_eq}
use Rattle.kat_model.specs.Trees.{Term}
use Rattle.kat_model.specs.Strings.{GuardedString}
use Rattle.kat_model.specs.Working.Decided.{some_below}
use Rattle.string_tables.specs.Parts.{accepts_part, is_between, ends_at, IsFirstEnd, HasNoEnd, AcceptsNoneBefore, HasPart, IsFirstPart}

-- a number that passes a test is found, and none passes if none is found

found_below : (p : ℕ → Bool) (n : ℕ) → some_below p n ≡ true → (i : ℕ) × (i < n) × (p i ≡ true)
found_below p zero h = absurd (both_ways false refl h)
found_below p (suc n) h =
    ⊎_elim
    (λ here. let lt : n < suc n = omega arith in (n, lt, here))
    (λ later. let r = found_below p n later in let lt : r.0 < suc n = omega (arith, r.1) in (r.0, lt, r.2))
    (or_cases (p n) (some_below p n) h)

none_found : (p : ℕ → Bool) (n : ℕ) → some_below p n ≡ false → (i : ℕ) → i < n → p i ≡ false
none_found p zero h i lt = absurd (omega arith)
none_found p (suc n) h i lt =
    let parts = or_parts (p n) (some_below p n) h in
    ⊎_elim (λ e. ap p e ∙ parts.0) (λ ne. let less : i < n = omega arith in none_found p n parts.1 i less) (cases_eq i n)

module _ (x : GuardedString) (e : Term) where
  -- whether the term accepts the part that begins at a position in the range and ends at position j
  abbrev is_part : ℕ → ℕ → ℕ → ℕ → Bool
  is_part from to j i = is_between from to i && accepts_part x e i j

  -- the beginning of a part that ends at position j
  record IsBegunAt (from to j i : ℕ) : Type 0 where
    above : from ≤ i
    below : i < to
    order : i ≤ j
    is : accepts_part x e i j ≡ true

  begun_at : (from to j : ℕ) → ends_at x e from to j ≡ true → (i : ℕ) × IsBegunAt from to j i
  begun_at from to j ends =
      let r = found_below (is_part from to j) (suc j) ends in
      let parts = and_parts (is_between from to r.0) (accepts_part x e r.0 j) r.2 in
      let bounds = and_parts _ _ parts.0 in
      (r.0, record { above = leb-true from r.0 bounds.0; below = ltb-true r.0 to bounds.1; order = omega (arith, r.1); is = parts.1 })

  pub no_end_no_part : (from to j : ℕ) → ends_at x e from to j ≡ false → (i : ℕ) → from ≤ i → i < to → i ≤ j → accepts_part x e i j ≡ false
  no_end_no_part from to j none i above below order =
      let lt : i < suc j = omega arith in
      ⊎_elim
      (λ outside. absurd (both_ways (is_between from to i) outside (and_from _ _ (le-leb from i above) (lt-ltb i to below))))
      (λ unaccepted. unaccepted)
      (and_cases (is_between from to i) (accepts_part x e i j) (none_found (is_part from to j) (suc j) none i lt))

  -- where no part ends, there is none
  pub no_part : (from to : ℕ) → HasNoEnd x e from to 0 → HasPart x e from to → ⊥
  no_part from to none p =
      let low : 0 ≤ p.end = omega arith in
      both_ways _ (no_end_no_part from to p.end (none p.end low p.within) p.start p.above p.below p.order) p.is

  pub none_before : (i : ℕ) → HasNoEnd x e 0 i 0 → AcceptsNoneBefore x e i
  none_before i none k l lk order within =
      let low : 0 ≤ l = omega arith in
      let above : 0 ≤ k = omega arith in
      no_end_no_part 0 i l (none l low within) k above lk order

  -- the first beginning is in the lower or in the upper half of a range

  pub first_end_part : (from to j : ℕ) → IsFirstEnd x e from to 0 j → HasPart x e from to
  first_end_part from to j f =
      let b = begun_at from to j f.is in
      record { start = b.0; end = j; above = b.1.above; below = b.1.below; order = b.1.order; within = f.within; is = b.1.is }

  pub none_in_half : (low middle : ℕ) → AcceptsNoneBefore x e low → HasNoEnd x e low middle 0 → AcceptsNoneBefore x e middle
  none_in_half low middle before none k l lk order within =
      ⊎_elim
      (λ less. before k l less order within)
      (λ more. let first : 0 ≤ l = omega arith in no_end_no_part low middle l (none l first within) k more lk order)
      (cases_lt k low)

  pub part_in_half : (low middle high : ℕ) → HasNoEnd x e low middle 0 → HasPart x e low high → HasPart x e middle high
  part_in_half low middle high none p =
      ⊎_elim
      (λ less. absurd (no_part low middle none (record { start = p.start; end = p.end; above = p.above; below = less; order = p.order; within = p.within; is = p.is })))
      (λ more. record { start = p.start; end = p.end; above = more; below = p.below; order = p.order; within = p.within; is = p.is })
      (cases_lt p.start middle)

  -- the first end of a part from the first beginning on
  pub first_given : (i j : ℕ) → AcceptsNoneBefore x e i → IsFirstEnd x e i (i + 1) 0 j → IsFirstPart x e i j
  first_given i j none f =
      let b = begun_at i (i + 1) j f.is in
      let start : b.0 ≡ i = omega (arith, b.1.above, b.1.below) in
      record {
        order = omega (arith, b.1.order, start);
        within = f.within;
        is = subst (λ k. accepts_part x e k j ≡ true) start b.1.is;
        above = none;
        before = λ l order less.
            let first : 0 ≤ l = omega arith in
            let own : i ≤ i = omega arith in
            let next : i < i + 1 = omega arith in
            no_end_no_part i (i + 1) l (f.first l first less) i own next order;
      }

  -- a part that begins at the first position and ends at the last
  module _ (n : ℕ) (count : n ≡ length x.rest) where
    pub whole_part : (j : ℕ) → IsFirstEnd x e 0 1 n j → accepts_part x e 0 n ≡ true
    whole_part j f =
        let b = begun_at 0 1 j f.is in
        let start : b.0 ≡ 0 = omega (arith, b.1.below) in
        let end : j ≡ n = omega (arith, f.late, f.within) in
        subst (λ l. accepts_part x e 0 l ≡ true) end (subst (λ k. accepts_part x e k j ≡ true) start b.1.is)

    pub no_whole_part : HasNoEnd x e 0 1 n → accepts_part x e 0 n ≡ false
    no_whole_part none =
        let own : n ≤ n = omega arith in
        let within : n ≤ length x.rest = omega arith in
        let above : 0 ≤ 0 = omega arith in
        let below : 0 < 1 = omega arith in
        let order : 0 ≤ n = omega arith in
        no_end_no_part 0 1 n (none n own within) 0 above below order
