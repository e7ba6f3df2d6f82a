-- The parts of a set by a test, and the union of two sets.
use Rattle.std.proofs.Common.{ℕ, not, ◌&&◌, ◌||◌, ap, ◌∙◌}
use mathlib.Core.Path.{ap₂}
use Rattle.kat_model.specs.Trees.{TestTree}
use Rattle.kat_model.specs.Steps.{truth}
use Rattle.outline_rules.specs.StepFunctions.{StepDiagramsParts, step_value, IsStepDiagram, KeepsSteps}
use Rattle.outline_rules.proofs.StepSets.{KeepsSteps-trans, step_value-kept}
use Rattle.hoare_outlines.specs.Working.AtomSets.{AtomSet, IsSetId}
use Rattle.hoare_outlines.proofs.SetIds.{set_kept}

pub holds_set : (d0 d1 d2 d3 : StepDiagramsParts) (set there holds : ℕ) (b : TestTree) (X : AtomSet) → KeepsSteps d0 d1 → KeepsSteps d1 d2 → KeepsSteps d2 d3 → IsSetId d1 there (truth b)
    → IsStepDiagram d3 holds (λ x y. step_value d2 set x y && step_value d2 there x y) → IsSetId d0 set X → IsSetId d3 holds (λ atom. X atom && truth b atom)
holds_set d0 d1 d2 d3 set there holds b X k1 k2 k3 is_there is_holds is =
    record {
      in_range = is_holds.in_range;
      value = λ x y lx ly.
          let lx2 = lx ∙ k3.tests in
          let ly2 = ly ∙ k3.tests in
          is_holds.value x y lx ly ∙ ap₂ (λ p r. p && r) ((set_kept d0 d2 (KeepsSteps-trans d0 d1 d2 k1 k2) set X is).value x y lx2 ly2) ((set_kept d1 d2 k2 there (truth b) is_there).value x y lx2 ly2);
    }

pub fails_set : (d0 d1 d2 d3 d4 : StepDiagramsParts) (set there elsewhere fails : ℕ) (b : TestTree) (X : AtomSet) → KeepsSteps d0 d1 → KeepsSteps d1 d2 → KeepsSteps d2 d3 → KeepsSteps d3 d4 → IsSetId d1 there (truth b)
    → IsStepDiagram d2 elsewhere (λ x y. not (step_value d1 there x y)) → IsStepDiagram d4 fails (λ x y. step_value d3 set x y && step_value d3 elsewhere x y) → IsSetId d0 set X → IsSetId d4 fails (λ atom. X atom && not (truth b atom))
fails_set d0 d1 d2 d3 d4 set there elsewhere fails b X k1 k2 k3 k4 is_there is_elsewhere is_fails is =
    record {
      in_range = is_fails.in_range;
      value = λ x y lx ly.
          let lx3 = lx ∙ k4.tests in
          let ly3 = ly ∙ k4.tests in
          let lx2 = lx3 ∙ k3.tests in
          let ly2 = ly3 ∙ k3.tests in
          is_fails.value x y lx ly
          ∙ ap₂ (λ p r. p && r)
          ((set_kept d0 d3 (KeepsSteps-trans d0 d1 d3 k1 (KeepsSteps-trans d1 d2 d3 k2 k3)) set X is).value x y lx3 ly3)
          (step_value-kept d2 d3 k3 elsewhere is_elsewhere.in_range x y ∙ is_elsewhere.value x y lx2 ly2 ∙ ap not (is_there.value x y (lx2 ∙ k2.tests) (ly2 ∙ k2.tests)));
    }

pub union_set : (old new : StepDiagramsParts) (first second both : ℕ) (X Y : AtomSet) → KeepsSteps old new → IsSetId old first X → IsSetId old second Y → IsStepDiagram new both (λ x y. step_value old first x y || step_value old second x y)
    → IsSetId new both (λ atom. X atom || Y atom)
union_set old new first second both X Y kept is_first is_second is_both =
    record {
      in_range = is_both.in_range;
      value = λ x y lx ly. is_both.value x y lx ly ∙ ap₂ (λ p r. p || r) (is_first.value x y (lx ∙ kept.tests) (ly ∙ kept.tests)) (is_second.value x y (lx ∙ kept.tests) (ly ∙ kept.tests));
    }
