use Rattle.std.proofs.Common.{refl}
use Rattle.std.proofs.lemmas.Result.{IfOk-weaker}
use Rattle.kat_model.specs.Expressions.{always, negation, cond_tree}
use Rattle.while_lang.specs.ProgramViews.{stmt_tree}
use Rattle.optimiser_steps.specs.Statements.{single}
use Rattle.optimiser_steps.proofs.ValidGoals.{valid_alike}
use Rattle.optimiser_steps.proofs.validity.fails_after.Goals as goal

pub holds_after-requires-clause-cond : goal.holds_after-requires-clause-cond
holds_after-requires-clause-cond c = rw c.in_ok-opposite.ensures c.requires.cond

pub returns : goal.returns
returns c =
    let body = single (stmt_tree c.args.stmt.now) in
    IfOk-weaker c.holds_after.result _ _
    (λ b d. valid_alike c.args.file.now always always body body (cond_tree c.in_ok-opposite.opposite) (negation (cond_tree c.args.cond.now)) b refl refl c.in_ok-opposite.ensures d)
    c.holds_after.ensures
