use Rattle.std.proofs.Common.{refl, ap, ◌∙◌, ◌∷◌, map}
use Rattle.while_lang.specs.Programs.{StmtTree}
use Rattle.while_lang.specs.ProgramViews.{stmt_tree}
use Rattle.optimiser_steps.proofs.ValidGoals.{refuted}
use Rattle.optimiser_steps.proofs.LeastSteps.{none_before_while}
use Rattle.optimiser_steps.proofs.MadeSteps.{loop_after_made}
use Rattle.optimiser_steps.proofs.sequence_steps.while_after.Goals as goal

pub returns-then-not-branch : goal.returns-then-not-branch
returns-then-not-branch c = none_before_while _ _ _ _ _ (refuted _ _ c.in_ok-fails_after.ensures c.if-not-branch.true)

pub returns : goal.returns
returns c =
    loop_after_made _ _ _ _ _ _ refl (c.in_ok-fails_after.ensures.0 c.if-not-branch.false)
    (c.in_ok-list.ensures ∙ ap (λ (s : StmtTree). s ∷ map stmt_tree c.args.later.now) c.in_ok-copy_stmt.ensures)
