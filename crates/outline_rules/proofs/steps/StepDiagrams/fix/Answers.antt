use Rattle.std.proofs.Common.{◌≡◌, ◌+◌, ◌<◌, ◌^◌, refl, sym, ap, ◌∙◌, arith}
use Rattle.outline_rules.specs.StepFunctions.{StepDiagramsParts, AreStepDiagrams}
use Rattle.outline_rules.proofs.StepSets.{tail_diagram, copy_set}
use Rattle.outline_rules.proofs.steps.StepDiagrams.fix.Goals as goal

pub copy_of-requires : goal.copy_of-requires
copy_of-requires c = omega (arith, c.requires.in_range, ap (λ (d : StepDiagramsParts). d.tests) c.self.view_is, c.self.invariant.small)

pub returns-clause-function : goal.returns-clause-function
returns-clause-function c =
    let old : StepDiagramsParts = record { tests = c.self.inside.tests; diagrams = c.self.inside.diagrams } in
    let new : StepDiagramsParts = record { tests = c.self.inside.tests; diagrams = c.fix.new.self } in
    let sound : AreStepDiagrams new = record { small = c.self.invariant.small; twice = c.fix.ensures.kept.tests ∙ c.self.invariant.twice; reduced = c.fix.ensures.reduced } in
    rw (← c.self.view_is) (tail_diagram c.fix.result new _ _ sound c.fix.ensures.function (λ x y lx ly. copy_set old c.args.a c.args.moment c.args.test c.copy_of.result c.args.value x y (lx ∙ sym ly) c.copy_of.ensures))
