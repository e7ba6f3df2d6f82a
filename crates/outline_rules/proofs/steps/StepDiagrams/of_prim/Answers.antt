use Rattle.std.proofs.Common.{◌≡◌, ◌+◌, ◌<◌, ◌^◌, refl, sym, ap, ◌∙◌, arith}
use Rattle.outline_rules.specs.StepFunctions.{StepDiagramsParts, AreStepDiagrams}
use Rattle.outline_rules.proofs.StepSets.{tail_diagram, copy_value}
use Rattle.outline_rules.proofs.steps.StepDiagrams.of_prim.Goals as goal

pub copy_of-requires : goal.copy_of-requires
copy_of-requires c = omega (arith, c.requires, ap (λ (d : StepDiagramsParts). d.tests) c.self.view_is, c.self.invariant.small)

pub returns-clause-function : goal.returns-clause-function
returns-clause-function c =
    let new : StepDiagramsParts = record { tests = c.self.inside.tests; diagrams = c.of_test.new.self } in
    let sound : AreStepDiagrams new = record { small = c.self.invariant.small; twice = c.of_test.ensures.kept.tests ∙ c.self.invariant.twice; reduced = c.of_test.ensures.reduced } in
    tail_diagram c.of_test.result new _ _ sound c.of_test.ensures.function (λ x y lx ly. copy_value c.args.moment c.args.test c.copy_of.result x y (lx ∙ sym ly) c.copy_of.ensures)
