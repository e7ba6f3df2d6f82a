use Rattle.std.proofs.Common.{refl, map}
use Rattle.std.proofs.lemmas.Result.{IfOk-weaker}
use Rattle.kat_model.specs.Expressions.{cond_tree}
use Rattle.while_lang.specs.ProgramViews.{stmt_tree}
use Rattle.optimiser_steps.proofs.ValidGoals.{refuted}
use Rattle.optimiser_steps.proofs.ListedPrograms.{block_before}
use Rattle.optimiser_steps.proofs.MadeSteps.{first_made, second_made, either_made, finds_shared}
use Rattle.optimiser_steps.proofs.statement_steps.if_step.Goals as goal

pub returns-then-branch : goal.returns-then-branch
returns-then-branch c =
    first_made _ _ _ _ _ _ refl (c.in_ok-holds_always.ensures.0 c.if-branch.true)
    (block_before _ (map stmt_tree c.args.rest.now) c.deref.result.now c.first.inside.list.items c.args.first.now c.in_ok-list.ensures c.deref.ensures.value c.first.view_is)

pub returns-then-branch-2 : goal.returns-then-branch-2
returns-then-branch-2 c =
    second_made _ _ _ _ _ _ refl (refuted _ _ c.in_ok-holds_always.ensures c.if-branch.false) (c.in_ok-holds_never.ensures.0 c.if-branch-2.true)
    (block_before _ (map stmt_tree c.args.rest.now) c.deref-then-branch-2.result.now c.second.inside.list.items c.args.second.now c.in_ok-list-2.ensures c.deref-then-branch-2.ensures.value c.second.view_is)

pub returns-then-same : goal.returns-then-same
returns-then-same c =
    either_made _ _ _ _ _ _ refl (refuted _ _ c.in_ok-holds_always.ensures c.if-branch.false) (refuted _ _ c.in_ok-holds_never.ensures c.if-branch-2.false) (c.same.ensures.0 c.if-same.true)
    (block_before _ (map stmt_tree c.args.rest.now) c.deref-then-same.result.now c.first.inside.list.items c.args.first.now c.in_ok-list-3.ensures c.deref-then-same.ensures.value c.first.view_is)

pub returns : goal.returns
returns c =
    IfOk-weaker c.shared_end_step.result _ _
    (λ r found. finds_shared c.args.file.now (map stmt_tree c.args.rest.now) (cond_tree c.args.cond.now) c.args.first.now c.args.second.now r
    (refuted _ _ c.in_ok-holds_always.ensures c.if-branch.false) (refuted _ _ c.in_ok-holds_never.ensures c.if-branch-2.false) (refuted _ _ c.same.ensures c.if-same.false)
    (found c.args.file.now))
    c.shared_end_step.ensures
