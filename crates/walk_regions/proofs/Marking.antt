-- Marks of terms, as rounds over the pairs extend them.
use Rattle.std.proofs.Common.{◌≡◌, ◌+◌, ◌<◌, ◌≤◌, inl, inr, ⊎_elim, ℕ, Bool, true, false, not, ◌&&◌, ◌||◌, List, [], ◌∷◌, length, get_or, replicate, set as put, slice_get, Option, Some, refl, sym, ap, ◌∙◌, subst, arith}
use Rattle.std.specs.Bool.{IsTrue, IsFalse}
use Rattle.std.proofs.lemmas.Bool.{or_cases, and_parts, both_ways}
use Rattle.std.proofs.lemmas.Option.{same_Some, slice_get_within, slice_get-get_or, get_or_from_slice_get}
use Rattle.std.proofs.lemmas.List.{get_or-replicate, length-replicate}
use Rattle.std.proofs.Math.ListN.{length-set}
use Rattle.kat_model.specs.Members.{Has, IsSubset}
use Rattle.kat_model.specs.Steps.{Atom}
use Rattle.kat_model.proofs.Places.{has_at, place_of_member, slice_get-set_cases, slice_get-set_same}
use Rattle.test_diagrams.specs.Functions.{DiagramsParts, value_of, IsDiagramId, IsAtomOf, IsDiagramOf, KeepsFunctions}
use Rattle.walk_regions.specs.Entries.{EntryParts}
use Rattle.walk_regions.specs.Reaching.{AllHold, IsClosedUnder, Brings, AreMarks, BringsAt, IsPartOf, BringsFirst, IsReachedAt, IsOpenPart}
use Rattle.kat_model.proofs.Numbers.{below_next}

-- a number read in range is the one at that place
pub read_number : (xs : List ℕ) (i x : ℕ) → i < length xs → x ≡ get_or xs i x → slice_get xs i ≡ Some x
read_number xs i x lt is = slice_get-get_or xs i x lt ∙ ap Some (sym is)

-- ---- when diagrams are added

module _ (c d : DiagramsParts) (kept : KeepsFunctions c d) (es : List EntryParts) (tests : (e : EntryParts) → Has es e → IsDiagramId c e.test) where
  pub closed_was : (atom : Atom) (p : ℕ → Bool) → IsClosedUnder d es atom p → IsClosedUnder c es atom p
  closed_was atom p closed e h t = closed e h (kept.values e.test (tests e h) atom ∙ t)

  pub brings_kept : (all : List ℕ) (id : ℕ) (targets : List ℕ) → IsDiagramId c id → Brings c es all id targets → Brings d es all id targets
  brings_kept all id targets is b atom fits p closed own h = b atom (fits ∙ kept.tests) p (closed_was atom p closed) own (sym (kept.values id is atom) ∙ h)

  pub brings_at_kept : (universal : Option ℕ) (all targets : List ℕ) (atom : Atom) → BringsAt c es universal all targets atom → BringsAt d es universal all targets atom
  brings_at_kept universal all targets atom b p closed own = b p (closed_was atom p closed) own

pub marks_kept : (c d : DiagramsParts) → KeepsFunctions c d → (es : List EntryParts) (all marks : List ℕ) → AreMarks c es all marks → AreMarks d es all marks
marks_kept c d kept es all marks m = record {
  tests = λ e h. kept.ids e.test (m.tests e h);
  ids = λ t id at. kept.ids id (m.ids t id at);
  brings = λ t id at. brings_kept c d kept es m.tests all id (t ∷ []) (m.ids t id at) (m.brings t id at);
}

-- ---- one mark

-- targets that are in the closure at the atoms of both diagrams are in it at the atoms of their disjunction
brings_or : (c d : DiagramsParts) (kept : KeepsFunctions c d) (es : List EntryParts) (tests : (e : EntryParts) → Has es e → IsDiagramId c e.test) (all targets : List ℕ) (a b id : ℕ) → IsDiagramOf d id (λ x. value_of c a x || value_of c b x) → Brings c es all a targets → Brings c es all b targets → Brings d es all id targets
brings_or c d kept es tests all targets a b id is first second atom fits p closed own h =
    let there = fits ∙ kept.tests in
    let was = closed_was c d kept es tests atom p closed in
    ⊎_elim (first atom there p was own) (second atom there p was own) (or_cases _ _ (sym (is.value atom fits) ∙ h))

pub mark_more : (c d : DiagramsParts) → KeepsFunctions c d → (es : List EntryParts) (all marks : List ℕ) (t old test new : ℕ) → slice_get marks t ≡ Some old → IsDiagramOf d new (λ x. value_of c old x || value_of c test x) → AreMarks c es all marks → Brings c es all test (t ∷ []) → AreMarks d es all (put marks t new)
mark_more c d kept es all marks t old test new at is m own = record {
  tests = λ e h. kept.ids e.test (m.tests e h);
  ids = λ s id there. ⊎_elim (λ e. subst (IsDiagramId d) (same s id e there) is.in_range) (λ before. kept.ids id (m.ids s id before)) (slice_get-set_cases marks t s new id there);
  brings = λ s id there.
      ⊎_elim
      (λ e.
      subst (λ i. Brings d es all i (s ∷ [])) (same s id e there)
      (subst (λ k. Brings d es all new (k ∷ [])) (sym e) (brings_or c d kept es m.tests all (t ∷ []) old test new is (m.brings t old at) own)))
      (λ before. brings_kept c d kept es m.tests all id (s ∷ []) (m.ids s id before) (m.brings s id before))
      (slice_get-set_cases marks t s new id there);
}
  where
    same : (s id : ℕ) → s ≡ t → slice_get (put marks t new) s ≡ Some id → new ≡ id
    same s id e there = same_Some new id (sym (slice_get-set_same marks t new (slice_get_within marks t old at)) ∙ ap (slice_get (put marks t new)) (sym e) ∙ there)

pub mark_ids : (c d : DiagramsParts) → KeepsFunctions c d → (marks : List ℕ) (t new : ℕ) → IsDiagramId d new → ((id : ℕ) → Has marks id → IsDiagramId c id) → (id : ℕ) → Has (put marks t new) id → IsDiagramId d id
mark_ids c d kept marks t new is old id h =
    let k = place_of_member (put marks t new) id h in
    ⊎_elim
    (λ e. subst (IsDiagramId d) (same_Some new id (sym (slice_get-set_same marks t new (subst (λ n. n < length marks) e (subst (λ n. k.0 < n) (length-set marks t new) (slice_get_within (put marks t new) k.0 id k.1)))) ∙ ap (slice_get (put marks t new)) (sym e) ∙ k.1)) is)
    (λ before. kept.ids id (old id (has_at marks k.0 id before)))
    (slice_get-set_cases marks t k.0 new id k.1)

-- ---- sets of targets

pub brings_part : (d : DiagramsParts) (es : List EntryParts) (all targets part : List ℕ) (id : ℕ) → IsSubset part targets → Brings d es all id targets → Brings d es all id part
brings_part d es all targets part id s b atom fits p closed own h = λ t here. b atom fits p closed own h t (s t here)

pub alone : (targets : List ℕ) (t : ℕ) → Has targets t → IsSubset (t ∷ []) targets
alone targets t h x e = ⊎_elim (λ same. subst (Has targets) same h) absurd e

-- for a diagram without atoms, any targets are in the closure
pub brings_never : (d : DiagramsParts) (es : List EntryParts) (all targets : List ℕ) (id : ℕ) → ((atom : Atom) → IsAtomOf d atom → value_of d id atom ≡ false) → Brings d es all id targets
brings_never d es all targets id never atom fits p closed own h = absurd (both_ways (value_of d id atom) (never atom fits) h)

-- a set is in its own closure at each atom
pub brings_own : (d : DiagramsParts) (es : List EntryParts) (all : List ℕ) (id : ℕ) → Brings d es all id all
brings_own d es all id atom fits p closed own h = own

-- within the test of a pair, a closure that contains one side contains the other
pub brings_right : (d : DiagramsParts) (es : List EntryParts) (all : List ℕ) (e : EntryParts) (id : ℕ) → Has es e → IsPartOf d e.test id → Brings d es all id e.left → Brings d es all id e.right
brings_right d es all e id h part b atom fits p closed own t = (closed e h (part.within atom fits t)).0 (b atom fits p closed own t)

pub brings_left : (d : DiagramsParts) (es : List EntryParts) (all : List ℕ) (e : EntryParts) (id : ℕ) → Has es e → IsPartOf d e.test id → Brings d es all id e.right → Brings d es all id e.left
brings_left d es all e id h part b atom fits p closed own t = (closed e h (part.within atom fits t)).1 (b atom fits p closed own t)

-- ---- terms one after the other

module _ (c d : DiagramsParts) (kept : KeepsFunctions c d) (es : List EntryParts) (tests : (e : EntryParts) → Has es e → IsDiagramId c e.test) (all terms : List ℕ) (n a b id t : ℕ) where
  -- at the atoms that both diagrams share, the closure contains the terms of both
  pub brings_next : slice_get terms n ≡ Some t → IsDiagramOf d id (λ x. value_of c a x && value_of c b x) → BringsFirst c es all a terms n → Brings c es all b (t ∷ []) → BringsFirst d es all id terms (n + 1)
  brings_next at is first own k x lt there atom fits p closed holds h =
      let fits_before = fits ∙ kept.tests in
      let was = closed_was c d kept es tests atom p closed in
      let both = and_parts _ _ (sym (is.value atom fits) ∙ h) in
      ⊎_elim
      (λ less. first k x less there atom fits_before p was holds both.0)
      (λ e. subst (λ y. AllHold p (y ∷ [])) (same_Some t x (sym at ∙ ap (slice_get terms) (sym e) ∙ there)) (own atom fits_before p was holds both.1))
      (below_next k n lt)

pub brings_first_all : (d : DiagramsParts) (es : List EntryParts) (all terms : List ℕ) (id n : ℕ) → length terms ≤ n → BringsFirst d es all id terms n → Brings d es all id terms
brings_first_all d es all terms id n le first atom fits p closed own h = λ t here.
    let k = place_of_member terms t here in
    let lt : k.0 < length terms = slice_get_within terms k.0 t k.1 in
    first k.0 t (omega arith) k.1 atom fits p closed own h t (inl refl)

pub part_of_both : (c d : DiagramsParts) → KeepsFunctions c d → (whole a b id : ℕ) → IsDiagramOf d id (λ x. value_of c a x && value_of c b x) → IsDiagramId c whole → IsPartOf c whole a → IsPartOf d whole id
part_of_both c d kept whole a b id is whole_is part = record {
  is_id = is.in_range;
  within = λ atom fits h. kept.values whole whole_is atom ∙ part.within atom (fits ∙ kept.tests) (and_parts (value_of c a atom) (value_of c b atom) (sym (is.value atom fits) ∙ h)).0;
}

pub part_of_either : (c d e : DiagramsParts) → KeepsFunctions c d → KeepsFunctions d e → (whole a b id : ℕ) → IsDiagramOf e id (λ x. value_of d a x || value_of d b x) → IsDiagramId c whole → IsPartOf c whole a → IsPartOf d whole b → IsPartOf e whole id
part_of_either c d e first second whole a b id is whole_is one two = record {
  is_id = is.in_range;
  within = λ atom fits h.
      let there = fits ∙ second.tests in
      second.values whole (first.ids whole whole_is) atom
      ∙ ⊎_elim (λ x. first.values whole whole_is atom ∙ one.within atom (there ∙ first.tests) (sym (first.values a one.is_id atom) ∙ x)) (λ y. two.within atom there y) (or_cases (value_of d a atom) (value_of d b atom) (sym (is.value atom fits) ∙ h));
}

-- ---- one pair

-- each side is marked at the atoms at which the closure contains the other
module _ (c₀ c₁ c₂ c₃ c₄ : DiagramsParts) (first : KeepsFunctions c₀ c₁) (third : KeepsFunctions c₂ c₃) (es : List EntryParts) (all before between after : List ℕ) (e : EntryParts) (listed : Has es e) (lefts rights : List ℕ) (left_is : lefts ≡ e.left) (right_is : rights ≡ e.right) (left right : ℕ) where
  pub pair_marked :
      IsPartOf c₁ e.test left → (AreMarks c₀ es all before → Brings c₁ es all left lefts) → (AreMarks c₁ es all before → Brings c₁ es all left rights → AreMarks c₂ es all between)
      → IsPartOf c₃ e.test right → (AreMarks c₂ es all between → Brings c₃ es all right rights) → (AreMarks c₃ es all between → Brings c₃ es all right lefts → AreMarks c₄ es all after)
      → AreMarks c₀ es all before → AreMarks c₄ es all after
  pair_marked left_part with_left marked_right right_part with_right marked_left m =
      let half = marked_right (marks_kept c₀ c₁ first es all before m) (subst (Brings c₁ es all left) (sym right_is) (brings_right c₁ es all e left listed left_part (subst (Brings c₁ es all left) left_is (with_left m)))) in
      marked_left (marks_kept c₂ c₃ third es all between half) (subst (Brings c₃ es all right) (sym left_is) (brings_left c₃ es all e right listed right_part (subst (Brings c₃ es all right) right_is (with_right half))))

pub read_entry : (es : List EntryParts) (i : ℕ) (e : EntryParts) → i < length es → e ≡ get_or es i e → Has es e
read_entry es i e lt is = has_at es i e (slice_get-get_or es i e lt ∙ ap Some (sym is))

-- ---- targets, or the universal id

pub reached_all : (d : DiagramsParts) (es : List EntryParts) (universal : Option ℕ) (all targets : List ℕ) (id : ℕ) → Brings d es all id targets → IsReachedAt d es universal all targets id
reached_all d es universal all targets id b = record { at = λ atom fits h p closed own. inl (b atom fits p closed own h) }

pub reached_or : (c d : DiagramsParts) → KeepsFunctions c d → (es : List EntryParts) → ((e : EntryParts) → Has es e → IsDiagramId c e.test) → (universal : Option ℕ) (all targets : List ℕ) (u a b id : ℕ) → universal ≡ Some u → IsDiagramOf d id (λ x. value_of c a x || value_of c b x) → Brings c es all a targets → Brings c es all b (u ∷ []) → IsReachedAt d es universal all targets id
reached_or c d kept es tests universal all targets u a b id is_u is first second = record {
  at = λ atom fits h p closed own.
      let there = fits ∙ kept.tests in
      let was = closed_was c d kept es tests atom p closed in
      ⊎_elim (λ x. inl (first atom there p was own x)) (λ y. inr (u, is_u, second atom there p was own y u (inl refl))) (or_cases (value_of c a atom) (value_of c b atom) (sym (is.value atom fits) ∙ h));
}

-- ---- the first marks

pub replicate_has : (n x y : ℕ) → Has (replicate n x) y → x ≡ y
replicate_has n x y h =
    let k = place_of_member (replicate n x) y h in
    sym (get_or-replicate n k.0 x y (subst (λ m. k.0 < m) (length-replicate n x) (slice_get_within (replicate n x) k.0 y k.1))) ∙ get_or_from_slice_get (replicate n x) k.0 y y k.1

pub marks_never : (d : DiagramsParts) (es : List EntryParts) → ((e : EntryParts) → Has es e → IsDiagramId d e.test) → (all : List ℕ) (n never : ℕ) → IsDiagramOf d never (λ a. false) → AreMarks d es all (replicate n never)
marks_never d es tests all n never is = record {
  tests = tests;
  ids = λ t id at. subst (IsDiagramId d) (same t id at) is.in_range;
  brings = λ t id at. brings_never d es all (t ∷ []) id (λ atom fits. ap (λ i. value_of d i atom) (sym (same t id at)) ∙ is.value atom fits);
}
  where
    same : (t id : ℕ) → slice_get (replicate n never) t ≡ Some id → never ≡ id
    same t id at = replicate_has n never id (has_at (replicate n never) t id at)

pub first_marks : (d : DiagramsParts) (es : List EntryParts) → ((e : EntryParts) → Has es e → IsDiagramId d e.test) → (all : List ℕ) (n never : ℕ) (marks list : List ℕ) → IsDiagramOf d never (λ a. false) → marks ≡ list → list ≡ replicate n never → AreMarks d es all marks
first_marks d es tests all n never marks list is same filled = subst (AreMarks d es all) (sym (same ∙ filled)) (marks_never d es tests all n never is)

-- ---- both sides

rest_covered : (a b : Bool) → a ≡ true → (a && not b) ≡ false → b ≡ true
rest_covered true true e n = refl
rest_covered true false e n = sym n
rest_covered false b e n = absurd (both_ways false refl e)

module _ (c₀ c₁ c₂ d : DiagramsParts) (first : KeepsFunctions c₀ c₁) (second : KeepsFunctions c₁ c₂) (third : KeepsFunctions c₂ d) (es : List EntryParts) (tests : (e : EntryParts) → Has es e → IsDiagramId c₀ e.test) (universal : Option ℕ) (sure_left sure_right open_left open_right : List ℕ) (whole left both id : ℕ) (whole_is : IsDiagramId c₀ whole) where
  tests₁ : (e : EntryParts) → Has es e → IsDiagramId c₁ e.test
  tests₁ e h = first.ids e.test (tests e h)

  tests₂ : (e : EntryParts) → Has es e → IsDiagramId c₂ e.test
  tests₂ e h = second.ids e.test (tests₁ e h)

  pub open_part :
      IsPartOf c₁ whole left → IsReachedAt c₁ es universal sure_right open_left left → IsPartOf c₂ left both → IsReachedAt c₂ es universal sure_left open_right both
      → IsDiagramOf d id (λ x. value_of c₂ whole x && not (value_of c₂ both x)) → IsOpenPart d es universal sure_left sure_right open_left open_right whole id
  open_part left_part lefts both_part rights is = record {
    part = record { is_id = is.in_range; within = λ atom fits h. third.values whole (second.ids whole (first.ids whole whole_is)) atom ∙ (and_parts (value_of c₂ whole atom) (not (value_of c₂ both atom)) (sym (is.value atom fits) ∙ h)).0 };
    lefts = λ atom fits w none.
        let here = covered atom fits w none in
        let fits₂ = fits ∙ third.tests in
        let fits₁ = fits₂ ∙ second.tests in
        brings_at_kept c₂ d third es tests₂ universal sure_right open_left atom
        (brings_at_kept c₁ c₂ second es tests₁ universal sure_right open_left atom (lefts.at atom fits₁ (sym (second.values left left_part.is_id atom) ∙ both_part.within atom fits₂ here)));
    rights = λ atom fits w none.
        brings_at_kept c₂ d third es tests₂ universal sure_left open_right atom (rights.at atom (fits ∙ third.tests) (covered atom fits w none));
  }
    where
      -- an atom that is not left is covered
      covered : (atom : Atom) → IsAtomOf d atom → IsTrue (value_of d whole atom) → IsFalse (value_of d id atom) → IsTrue (value_of c₂ both atom)
      covered atom fits w none = rest_covered (value_of c₂ whole atom) (value_of c₂ both atom) (sym (third.values whole (second.ids whole (first.ids whole whole_is)) atom) ∙ w) (sym (is.value atom fits) ∙ none)
