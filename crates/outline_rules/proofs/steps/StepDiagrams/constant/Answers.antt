use Rattle.std.proofs.Common.{refl}
use Rattle.outline_rules.proofs.StepSets.{step_diagram}
use Rattle.outline_rules.proofs.steps.StepDiagrams.constant.Goals as goal

pub returns-clause-function : goal.returns-clause-function
returns-clause-function c = rw (← c.self.view_is) (step_diagram _ c.constant.result _ _ c.self.invariant c.constant.ensures.function (λ x y lx ly. refl))
