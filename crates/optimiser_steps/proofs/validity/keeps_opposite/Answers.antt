use Rattle.std.proofs.Common.{refl}
use Rattle.std.proofs.lemmas.Result.{IfOk-weaker}
use Rattle.kat_model.specs.Expressions.{negation, cond_tree}
use Rattle.optimiser_steps.proofs.ValidGoals.{valid_alike}
use Rattle.optimiser_steps.proofs.validity.keeps_opposite.Goals as goal

pub keeps-requires-clause-cond : goal.keeps-requires-clause-cond
keeps-requires-clause-cond c = rw c.in_ok-opposite.ensures c.requires.cond

pub returns : goal.returns
returns c =
    let converse = c.in_ok-opposite.ensures in
    let cond = negation (cond_tree c.args.cond.now) in
    IfOk-weaker c.keeps.result _ _
    (λ b d. valid_alike c.args.file.now (cond_tree c.in_ok-opposite.opposite) cond c.args.body.now c.args.body.now (cond_tree c.in_ok-opposite.opposite) cond b converse refl converse d)
    c.keeps.ensures
