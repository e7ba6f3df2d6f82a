use Rattle.std.proofs.Common.{refl, map}
use Rattle.while_lang.specs.ProgramViews.{stmt_tree}
use Rattle.optimiser_steps.proofs.ValidGoals.{refuted}
use Rattle.optimiser_steps.proofs.ListedPrograms.{block_between}
use Rattle.optimiser_steps.proofs.LeastSteps.{none_before_if}
use Rattle.optimiser_steps.proofs.MadeSteps.{first_after_made, second_after_made}
use Rattle.optimiser_steps.proofs.sequence_steps.if_after.Goals as goal

pub returns-then-branch : goal.returns-then-branch
returns-then-branch c =
    first_after_made _ _ _ _ _ _ _ refl (c.in_ok-holds_after.ensures.0 c.if-branch.true)
    (block_between (stmt_tree c.args.stmt.now) _ (map stmt_tree c.args.later.now) c.deref.result.now c.first.inside.list.items c.args.first.now c.in_ok-list.ensures c.deref.ensures.value c.first.view_is)

pub returns-then-branch-2 : goal.returns-then-branch-2
returns-then-branch-2 c =
    second_after_made _ _ _ _ _ _ _ refl (refuted _ _ c.in_ok-holds_after.ensures c.if-branch.false) (c.in_ok-fails_after.ensures.0 c.if-branch-2.true)
    (block_between (stmt_tree c.args.stmt.now) _ (map stmt_tree c.args.later.now) c.deref-then-branch-2.result.now c.second.inside.list.items c.args.second.now c.in_ok-list-2.ensures c.deref-then-branch-2.ensures.value c.second.view_is)

pub returns : goal.returns
returns c = none_before_if _ _ _ _ _ _ (refuted _ _ c.in_ok-holds_after.ensures c.if-branch.false) (refuted _ _ c.in_ok-fails_after.ensures c.if-branch-2.false)
