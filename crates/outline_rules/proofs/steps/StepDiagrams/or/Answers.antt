use Rattle.std.proofs.Common.{◌≡◌, refl, sym, ap, ◌∙◌}
use Rattle.outline_rules.specs.StepFunctions.{StepDiagramsParts, AreStepDiagrams}
use Rattle.outline_rules.proofs.StepSets.{tail_diagram}
use Rattle.outline_rules.proofs.steps.StepDiagrams.or.Goals as goal

pub returns-clause-function : goal.returns-clause-function
returns-clause-function c =
    let new : StepDiagramsParts = record { tests = c.self.inside.tests; diagrams = c.or.new.self } in
    let sound : AreStepDiagrams new = record { small = c.self.invariant.small; twice = c.or.ensures.kept.tests ∙ c.self.invariant.twice; reduced = c.or.ensures.reduced } in
    rw (← c.self.view_is) (tail_diagram c.or.result new _ _ sound c.or.ensures.function (λ x y lx ly. refl))
