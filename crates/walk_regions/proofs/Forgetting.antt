-- Tests of a diagram, forgotten one after the other.
use Rattle.std.proofs.Common.{◌≡◌, ⊎_elim, ℕ, Bool, true, false, ◌||◌, List, get_or, set, refl, sym, ap, ◌∙◌}
use mathlib.Core.Path.{ap₂}
use Rattle.std.specs.Bool.{IsTrue}
use Rattle.std.proofs.lemmas.Bool.{or_cases, or_left, or_right}
use Rattle.std.proofs.lemmas.List.{set-get_or}
use Rattle.std.proofs.Math.ListN.{length-set}
use Rattle.kat_model.specs.Members.{Has}
use Rattle.kat_model.specs.Steps.{Atom}
use Rattle.test_diagrams.specs.Functions.{DiagramsParts, value_of, IsDiagramId, IsAtomOf, IsDiagramOf, IsIndependent, KeepsFunctions}
use Rattle.walk_regions.specs.Bars.{IsReset, unchanged, reset, IsForgotten}

-- a diagram that does not depend on the tests has the same value at both atoms
pub reset_same : (d : DiagramsParts) (tests : List ℕ) (id : ℕ) → ((t : ℕ) → Has tests t → IsIndependent d id t) → {a b : Atom} → IsReset tests a b → IsAtomOf d a → value_of d id b ≡ value_of d id a
reset_same d tests id free (unchanged a) fits = refl
reset_same d tests id free (reset a b t v h r) fits = reset_same d tests id free r (length-set a t v ∙ fits) ∙ free t h a fits v

pub forgotten_none : (d : DiagramsParts) (whole : ℕ) (tests : List ℕ) → IsDiagramId d whole → IsForgotten d whole tests whole
forgotten_none d whole tests is = record { is_id = is; there = λ a fits h. (a, unchanged a, fits, h); back = λ a fits h. h }

pub forgotten_kept : (c d : DiagramsParts) → KeepsFunctions c d → (whole : ℕ) (tests : List ℕ) (id : ℕ) → IsDiagramId c whole → IsForgotten c whole tests id → IsForgotten d whole tests id
forgotten_kept c d kept whole tests id is f = record {
  is_id = kept.ids id f.is_id;
  there = λ a fits h.
      let r = f.there a (fits ∙ kept.tests) (sym (kept.values id f.is_id a) ∙ h) in
      (r.0, r.1, r.2 ∙ sym kept.tests, kept.values whole is r.0 ∙ r.3);
  back = λ a fits h. kept.values id f.is_id a ∙ f.back a (fits ∙ kept.tests) (sym (kept.values whole is a) ∙ h);
}

-- an additional test
module _ (c d e f : DiagramsParts) (id t low high next : ℕ) (first : KeepsFunctions c d) (second : KeepsFunctions d e) (third : KeepsFunctions e f) (is : IsDiagramId c id)
    (is_low : IsDiagramOf d low (λ a. value_of c id (set a t false))) (is_high : IsDiagramOf e high (λ a. value_of d id (set a t true))) (is_next : IsDiagramOf f next (λ a. value_of e low a || value_of e high a)) where
  either_value : (a : Atom) → IsAtomOf f a → value_of f next a ≡ (value_of f id (set a t false) || value_of f id (set a t true))
  either_value a fits =
      let in_e : IsAtomOf e a = fits ∙ third.tests in
      let in_d : IsAtomOf d a = in_e ∙ second.tests in
      let of_d : (b : Atom) → value_of d id b ≡ value_of f id b = λ b. sym (third.values id (second.ids id (first.ids id is)) b ∙ second.values id (first.ids id is) b) in
      let low_value : value_of e low a ≡ value_of f id (set a t false) = second.values low is_low.in_range a ∙ is_low.value a in_d ∙ sym (first.values id is (set a t false)) ∙ of_d (set a t false) in
      let high_value : value_of e high a ≡ value_of f id (set a t true) = is_high.value a in_e ∙ of_d (set a t true) in
      is_next.value a fits ∙ ap₂ (λ x y. x || y) low_value high_value

  pub forgotten_more : (whole : ℕ) (tests : List ℕ) → Has tests t → IsForgotten f whole tests id → IsForgotten f whole tests next
  forgotten_more whole tests h g = record {
    is_id = is_next.in_range;
    there = λ a fits k. ⊎_elim (from a fits false) (from a fits true) (or_cases _ _ (sym (either_value a fits) ∙ k));
    back = λ a fits k. either_value a fits ∙ some a (get_or a t false) refl (g.back a fits k);
  }
    where
      from : (a : Atom) → IsAtomOf f a → (v : Bool) → IsTrue (value_of f id (set a t v)) → (b : Atom) × IsReset tests a b × IsAtomOf f b × IsTrue (value_of f whole b)
      from a fits v k =
          let r = g.there (set a t v) (length-set a t v ∙ fits) k in
          (r.0, reset a r.0 t v h r.1, r.2, r.3)

      some : (a : Atom) (v : Bool) → get_or a t false ≡ v → IsTrue (value_of f id a) → (value_of f id (set a t false) || value_of f id (set a t true)) ≡ true
      some a true own k = or_right _ _ (ap (value_of f id) (ap (set a t) (sym own) ∙ set-get_or a t false) ∙ k)
      some a false own k = or_left _ _ (ap (value_of f id) (ap (set a t) (sym own) ∙ set-get_or a t false) ∙ k)
