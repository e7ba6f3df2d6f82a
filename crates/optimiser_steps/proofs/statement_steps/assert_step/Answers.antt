use Rattle.std.proofs.Common.{refl}
use Rattle.optimiser_steps.proofs.ValidGoals.{refuted}
use Rattle.optimiser_steps.proofs.LeastSteps.{none_at_assert}
use Rattle.optimiser_steps.proofs.MadeSteps.{assert_made}
use Rattle.optimiser_steps.proofs.statement_steps.assert_step.Goals as goal

pub returns-then-not-branch : goal.returns-then-not-branch
returns-then-not-branch c = none_at_assert _ _ _ (refuted _ _ c.in_ok-holds_always.ensures c.if-not-branch.true)

pub returns : goal.returns
returns c = assert_made _ _ _ _ refl (c.in_ok-holds_always.ensures.0 c.if-not-branch.false) c.in_ok-list.ensures
