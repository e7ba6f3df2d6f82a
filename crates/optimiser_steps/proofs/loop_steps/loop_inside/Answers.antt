use Rattle.std.proofs.Common.{refl}
use Rattle.optimiser_steps.proofs.ValidGoals.{refuted}
use Rattle.optimiser_steps.proofs.LeastSteps.{none_over_loop}
use Rattle.optimiser_steps.proofs.MadeSteps.{flat_loop_made}
use Rattle.optimiser_steps.proofs.loop_steps.loop_inside.Goals as goal

pub returns-then-not-branch : goal.returns-then-not-branch
returns-then-not-branch c f = none_over_loop f _ _ _ _ (refuted _ _ c.in_ok-is_same_cond.ensures c.if-not-branch.true)

pub returns : goal.returns
returns c f = flat_loop_made f _ _ _ _ _ refl (c.in_ok-is_same_cond.ensures.0 c.if-not-branch.false) c.in_ok-list.ensures
