-- The atoms at which no listed pair has the sets, computed by removing the atoms of one pair after the other.
use Rattle.std.proofs.Common.{◌≡◌, ◌⊎◌, inl, inr, ⊎_elim, ℕ, Bool, true, false, not, ◌&&◌, List, [], ◌∷◌, ◌++◌, refl, sym, ◌∙◌, subst}
use Rattle.std.specs.Bool.{IsTrue}
use Rattle.std.proofs.lemmas.Bool.{and_parts, both_ways, not-true}
use Rattle.kat_model.specs.Members.{Has}
use Rattle.kat_model.proofs.Lists.{has_left, has_right, has_append}
use Rattle.test_diagrams.specs.Functions.{DiagramsParts, value_of, IsDiagramId, IsDiagramOf, KeepsFunctions}
use Rattle.walk_regions.specs.Entries.{EntryParts}
use Rattle.walk_regions.specs.Listings.{IsWithoutPair, IsFreshPart}

pub with_other : (c : DiagramsParts) (e : EntryParts) (left right : List ℕ) (id : ℕ) → IsDiagramId c id → ((e.left ≡ left) × (e.right ≡ right) → ⊥) → IsWithoutPair c c e left right id id
with_other c e left right id is apart = record {
  is_id = is;
  within = λ atom fits h. h;
  apart = λ l r atom fits h t. apart (l, r);
  rest = λ atom fits h none. absurd (none h);
}

without_cases : (a b : Bool) → a ≡ true → ((a && not b) ≡ true → ⊥) → b ≡ true
without_cases true true e none = refl
without_cases true false e none = absurd (none refl)
without_cases false b e none = absurd (both_ways false refl e)

pub without_same : (c d : DiagramsParts) (e : EntryParts) (left right : List ℕ) (old id : ℕ) → (e.left ≡ left) × (e.right ≡ right) → IsDiagramOf d id (λ a. value_of c old a && not (value_of c e.test a)) → IsWithoutPair c d e left right old id
without_same c d e left right old id same is = record {
  is_id = is.in_range;
  within = λ atom fits h. (and_parts (value_of c old atom) (not (value_of c e.test atom)) (sym (is.value atom fits) ∙ h)).0;
  apart = λ l r atom fits h t. both_ways (value_of c e.test atom) (not-true (value_of c e.test atom) (and_parts (value_of c old atom) (not (value_of c e.test atom)) (sym (is.value atom fits) ∙ h)).1) t;
  rest = λ atom fits h none. (same.0, same.1, without_cases (value_of c old atom) (value_of c e.test atom) h (λ t. none (is.value atom fits ∙ t)));
}

pub fresh_none : (d : DiagramsParts) (left right : List ℕ) (id : ℕ) → IsDiagramId d id → IsFreshPart d [] left right id id
fresh_none d left right id is = record { is_id = is; within = λ a fits h. h; apart = λ e h. absurd h; rest = λ atom fits h none. absurd (none h) }

-- a truth value is true or is not true
is_it : (b : Bool) → (b ≡ true) ⊎ (b ≡ true → ⊥)
is_it true = inl refl
is_it false = inr (λ e. both_ways false refl e)

pub fresh_more : (c d : DiagramsParts) → KeepsFunctions c d → (es : List EntryParts) (e : EntryParts) (left right : List ℕ) (whole old id : ℕ) → ((f : EntryParts) → Has es f → IsDiagramId c f.test) → IsDiagramId c e.test → IsDiagramId c whole → IsFreshPart c es left right whole old → IsWithoutPair c d e left right old id → IsFreshPart d (es ++ e ∷ []) left right whole id
fresh_more c d kept es e left right whole old id tests own whole_is f w = record {
  is_id = w.is_id;
  within = λ a fits h. kept.values whole whole_is a ∙ f.within a (fits ∙ kept.tests) (w.within a fits h);
  apart = λ x h l r atom fits t u.
      ⊎_elim
      (λ m. f.apart x m l r atom (fits ∙ kept.tests) (w.within atom fits t) (sym (kept.values x.test (tests x m) atom) ∙ u))
      (λ m.
      ⊎_elim
      (λ s.
      w.apart (subst (λ (z : EntryParts). z.left ≡ left) (sym s) l) (subst (λ (z : EntryParts). z.right ≡ right) (sym s) r) atom fits t
      (sym (kept.values e.test own atom) ∙ subst (λ (z : EntryParts). IsTrue (value_of d z.test atom)) (sym s) u))
      (λ a. absurd a) m)
      (has_append es (e ∷ []) x h);
  rest = λ atom fits t none.
      let was = sym (kept.values whole whole_is atom) ∙ t in
      ⊎_elim
      (λ held. let r = w.rest atom fits held none in (e, has_right es (e ∷ []) e (inl refl), r.0, r.1, kept.values e.test own atom ∙ r.2))
      (λ gone.
      let r = f.rest atom (fits ∙ kept.tests) was gone in
      (r.0, has_left es (e ∷ []) r.0 r.1, r.2, r.3, kept.values r.0.test (tests r.0 r.1) atom ∙ r.4))
      (is_it (value_of c old atom));
}
