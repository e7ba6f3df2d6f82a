-- Diagrams of tests from those of their parts.
use Rattle.std.proofs.Common.{◌≡◌, ℕ, Bool, not, ◌&&◌, ◌||◌, Result, IfOk, sym, ap, ◌∙◌}
use mathlib.Core.Path.{ap₂}
use Rattle.std.proofs.lemmas.Result.{IfOk-weaker}
use Rattle.kat_model.specs.Trees.{TestTree, complement, meet, join}
use Rattle.kat_model.specs.Steps.{Atom, truth}
use Rattle.test_diagrams.specs.Functions.{DiagramsParts, value_of, IsAtomOf, IsDiagramOf, KeepsFunctions}

pub not_diagram : {E : Type 0} (r : Result ℕ E) (c d : DiagramsParts) (i : ℕ) (test b : TestTree) → test ≡ complement b → IsDiagramOf c i (truth b) → KeepsFunctions c d
    → IfOk r (λ id. IsDiagramOf d id (λ atom. not (value_of c i atom))) → IfOk r (λ id. IsDiagramOf d id (truth test))
not_diagram r c d i test b is inner kept =
    IfOk-weaker r _ _
    (λ id made. record {
      in_range = made.in_range;
      value = λ atom fits. made.value atom fits ∙ ap not (inner.value atom (fits ∙ kept.tests)) ∙ sym (ap (λ t. truth t atom) is);
    })

-- the values of both parts, of which the first has kept its own
module _ (b c d : DiagramsParts) (i j : ℕ) (left right : TestTree) (first : IsDiagramOf b i (truth left)) (second : IsDiagramOf c j (truth right)) (early : KeepsFunctions b c) (late : KeepsFunctions c d) where
  both_values : (op : Bool → Bool → Bool) (atom : Atom) → IsAtomOf d atom → op (value_of c i atom) (value_of c j atom) ≡ op (truth left atom) (truth right atom)
  both_values op atom fits =
      let fits_both = fits ∙ late.tests in
      ap₂ op (early.values i first.in_range atom ∙ first.value atom (fits_both ∙ early.tests)) (second.value atom fits_both)

module _ {E : Type 0} (r : Result ℕ E) (b c d : DiagramsParts) (i j : ℕ) (test left right : TestTree) where
  pub and_diagram : test ≡ meet left right → IsDiagramOf b i (truth left) → IsDiagramOf c j (truth right) → KeepsFunctions b c → KeepsFunctions c d
      → IfOk r (λ id. IsDiagramOf d id (λ atom. value_of c i atom && value_of c j atom)) → IfOk r (λ id. IsDiagramOf d id (truth test))
  and_diagram is first second early late =
      IfOk-weaker r _ _
      (λ id made. record {
        in_range = made.in_range;
        value = λ atom fits. made.value atom fits ∙ both_values b c d i j left right first second early late ◌&&◌ atom fits ∙ sym (ap (λ t. truth t atom) is);
      })

  pub or_diagram : test ≡ join left right → IsDiagramOf b i (truth left) → IsDiagramOf c j (truth right) → KeepsFunctions b c → KeepsFunctions c d
      → IfOk r (λ id. IsDiagramOf d id (λ atom. value_of c i atom || value_of c j atom)) → IfOk r (λ id. IsDiagramOf d id (truth test))
  or_diagram is first second early late =
      IfOk-weaker r _ _
      (λ id made. record {
        in_range = made.in_range;
        value = λ atom fits. made.value atom fits ∙ both_values b c d i j left right first second early late ◌||◌ atom fits ∙ sym (ap (λ t. truth t atom) is);
      })
