use Rattle.std.proofs.Common.{refl, ap, ◌∙◌}
use Rattle.std.proofs.lemmas.Result.{IfOk-weaker}
use Rattle.kat_model.specs.Expressions.{always, cond_tree}
use Rattle.while_lang.specs.ProgramViews.{stmt_tree}
use Rattle.optimiser_steps.specs.Statements.{single}
use Rattle.optimiser_steps.proofs.RangesKept.{single_in}
use Rattle.optimiser_steps.proofs.ValidGoals.{valid_alike}
use Rattle.optimiser_steps.proofs.validity.holds_after.Goals as goal

pub is_valid-requires-clause-body : goal.is_valid-requires-clause-body
is_valid-requires-clause-body c = rw (c.in_ok-body.ensures, c.in_ok-copy_stmt.ensures) (single_in c.args.file.now (stmt_tree c.args.stmt.now) c.requires.stmt)

pub is_valid-requires-clause-post : goal.is_valid-requires-clause-post
is_valid-requires-clause-post c = rw c.in_ok-copy.ensures c.requires.cond

pub returns : goal.returns
returns c =
    IfOk-weaker c.is_valid.result _ _
    (λ b d. valid_alike c.args.file.now always always c.in_ok-body.body (single (stmt_tree c.args.stmt.now)) (cond_tree c.in_ok-copy.field-0) (cond_tree c.args.cond.now) b refl
    (c.in_ok-body.ensures ∙ ap single c.in_ok-copy_stmt.ensures) c.in_ok-copy.ensures d)
    c.is_valid.ensures
