-- The first term of a list that relates positions of a string, found by the first part that each term accepts.
use Rattle.std.proofs.Common.{◌≡◌, ℕ, ◌+◌, ◌<◌, ◌≤◌, ◌↔◌, ⊎_elim, List, length, get_or, slice_get, Some, is_some, MatchOption, Option, None, true, false, refl, sym, ap, ◌∙◌, subst, arith}
use Rattle.std.specs.Bool.{IsTrue}
use Rattle.std.proofs.lemmas.Bool.{both_ways, false≢true}
use Rattle.std.proofs.lemmas.Option.{get_or_from_slice_get, slice_get_within}
use Rattle.kat_model.specs.Trees.{Term}
use Rattle.kat_model.specs.Relations.{Relates, Keeps}
use Rattle.kat_model.specs.Strings.{GuardedString}
use Rattle.kat_model.proofs.Numbers.{below_next}
use Rattle.kat_model.proofs.Places.{place_of_member}
use Rattle.string_tables.specs.Tables.{table_of, RelatesEnds}
use Rattle.string_tables.specs.Parts.{accepts_part, IsFirstEnd, HasNoEnd, AcceptsNoneBefore, IsFirstPart}
use Rattle.string_tables.specs.Working.Breaks.{Breaks, BreaksFirst}
use Rattle.string_tables.specs.Findings.{IsBefore}
use Rattle.string_tables.proofs.Parts.{relates_by_part}
use Rattle.string_tables.proofs.PartSearch.{whole_part, no_whole_part}

module _ (x : GuardedString) (e : Term) where
  -- if the term accepts no part from k to l, it does not relate the positions
  unaccepted_unrelated : (k l : ℕ) → k ≤ length x.rest → l ≤ length x.rest → (k ≤ l → accepts_part x e k l ≡ false) → Relates (table_of x) e k l → ⊥
  unaccepted_unrelated k l lk ll none r =
      let a = (relates_by_part x e k l lk ll).0 r in
      both_ways (accepts_part x e k l) (none a.order) a.accepted

  accepted_related : (i j : ℕ) → i ≤ j → j ≤ length x.rest → accepts_part x e i j ≡ true → Relates (table_of x) e i j
  accepted_related i j order within is =
      let low : i ≤ length x.rest = omega arith in
      (relates_by_part x e i j low within).1 (record { order = order; accepted = is })

  -- the ends are related if a part ends at the last position that begins at the first
  pub ends_given : (n : ℕ) (o : Option ℕ) → n ≡ length x.rest → MatchOption o (HasNoEnd x e 0 1 n) (λ j. IsFirstEnd x e 0 1 n j) → IsTrue (is_some o) ↔ RelatesEnds x e
  ends_given n None count none = (
    (λ t. absurd (false≢true t)),
    (λ r.
        let first : 0 ≤ length x.rest = omega arith in
        let last : length x.rest ≤ length x.rest = omega arith in
        absurd (unaccepted_unrelated 0 (length x.rest) first last (λ _. subst (λ k. accepts_part x e 0 k ≡ false) count (no_whole_part x e n count none)) r)),
  )
  ends_given n (Some j) count f = (
    (λ _.
        let first : 0 ≤ length x.rest = omega arith in
        let last : length x.rest ≤ length x.rest = omega arith in
        accepted_related 0 (length x.rest) first last (subst (λ k. accepts_part x e 0 k ≡ true) count (whole_part x e n count j f))),
    (λ _. refl),
  )

module _ (x : GuardedString) (terms : List Term) where
  -- none of the first h terms relates any positions
  abbrev pub NoneBreaks : ℕ → Type 0
  NoneBreaks h = (g k l : ℕ) → g < h → Breaks (table_of x) terms g k l → ⊥

  -- if the term at an index breaks, this term relates the positions
  term_here : (h g k l : ℕ) (e : Term) → slice_get terms h ≡ Some e → g ≡ h → (b : Breaks (table_of x) terms g k l) → Relates (table_of x) e k l
  term_here h g k l e is same b =
      let e_is : b.term ≡ e = sym (get_or_from_slice_get terms g b.term e b.is) ∙ ap (λ n. get_or terms n e) same ∙ get_or_from_slice_get terms h e e is in
      subst (λ f. Relates (table_of x) f k l) e_is b.relates

  pub none_more : (h : ℕ) (e : Term) → slice_get terms h ≡ Some e → AcceptsNoneBefore x e (length x.rest + 1) → NoneBreaks h → NoneBreaks (h + 1)
  none_more h e is none before g k l lt b =
      ⊎_elim
      (λ less. before g k l less b)
      (λ same.
      let lk : k ≤ length x.rest = omega (arith, b.from) in
      let ll : l ≤ length x.rest = omega (arith, b.to) in
      let below : k < length x.rest + 1 = omega arith in
      unaccepted_unrelated x e k l lk ll (λ order. none k l below order ll) (term_here h g k l e is same b))
      (below_next g h lt)

  pub none_keeps : (h : ℕ) → length terms ≤ h → NoneBreaks h → Keeps (table_of x) terms
  none_keeps h le none e has i j li lj r =
      let place = place_of_member terms e has in
      let within = slice_get_within terms place.0 e place.1 in
      none place.0 i j (omega arith) (record { term = e; is = place.1; from = li; to = lj; relates = r })

  pub first_breaks : (h : ℕ) (e : Term) (i j : ℕ) → slice_get terms h ≡ Some e → IsFirstPart x e i j → NoneBreaks h → BreaksFirst (table_of x) terms h i j
  first_breaks h e i j is first none = record { breaks = breaks; first = earlier }
    where
      breaks : Breaks (table_of x) terms h i j
      breaks = record {
        term = e;
        is = is;
        from = omega (arith, first.order, first.within);
        to = omega (arith, first.within);
        relates = accepted_related x e i j first.order first.within first.is;
      }

      earlier : (g k l : ℕ) → IsBefore g h k i l j → Breaks (table_of x) terms g k l → ⊥
      earlier g k l before b =
          let lk : k ≤ length x.rest = omega (arith, b.from) in
          let ll : l ≤ length x.rest = omega (arith, b.to) in
          ⊎_elim
          (λ less. none g k l less b)
          (λ p.
          let r = term_here h g k l e is p.0 b in
          ⊎_elim
          (λ above. unaccepted_unrelated x e k l lk ll (λ order. first.above k l above order ll) r)
          (λ q.
          let here : (k ≤ l → accepts_part x e k l ≡ false) = λ order. subst (λ n. accepts_part x e n l ≡ false) (sym q.0) (first.before l (subst (λ n. n ≤ l) q.0 order) q.1) in
          unaccepted_unrelated x e k l lk ll here r)
          p.1)
          before
