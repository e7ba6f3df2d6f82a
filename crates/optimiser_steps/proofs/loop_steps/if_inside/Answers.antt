use Rattle.std.proofs.Common.{refl, ap, ◌∙◌, ◌∷◌, map}
use Rattle.while_lang.specs.Programs.{StmtTree}
use Rattle.while_lang.specs.ProgramViews.{stmt_tree}
use Rattle.optimiser_steps.proofs.ValidGoals.{refuted}
use Rattle.optimiser_steps.proofs.LeastSteps.{none_over_if}
use Rattle.optimiser_steps.proofs.MadeSteps.{unswitched_made, flat_if_made}
use Rattle.optimiser_steps.proofs.loop_steps.if_inside.Goals as goal

pub returns-then-branch : goal.returns-then-branch
returns-then-branch c =
    let kept = c.in_ok-is_kept.ensures.0 c.if-branch.true in
    unswitched_made _ _ _ _ _ _ _ refl kept.0 kept.1 (c.in_ok-list.ensures ∙ ap (λ (s : StmtTree). s ∷ map stmt_tree c.args.rest.now) c.in_ok-stmt.ensures)

pub returns-then-branch-2 : goal.returns-then-branch-2
returns-then-branch-2 c =
    flat_if_made _ _ _ _ _ _ _ refl (refuted _ _ c.in_ok-is_kept.ensures c.if-branch.false) (c.in_ok-is_same_cond.ensures.0 c.if-branch-2.true) c.in_ok-list-2.ensures

pub returns : goal.returns
returns c = none_over_if _ _ _ _ _ _ (refuted _ _ c.in_ok-is_kept.ensures c.if-branch.false) (refuted _ _ c.in_ok-is_same_cond.ensures c.if-branch-2.false)
