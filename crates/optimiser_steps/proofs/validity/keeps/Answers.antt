use Rattle.std.proofs.lemmas.Result.{IfOk-weaker}
use Rattle.kat_model.specs.Expressions.{cond_tree}
use Rattle.optimiser_steps.proofs.ValidGoals.{valid_alike}
use Rattle.optimiser_steps.proofs.validity.keeps.Goals as goal

pub is_valid-requires-clause-body : goal.is_valid-requires-clause-body
is_valid-requires-clause-body c = rw c.in_ok-copy.ensures c.requires.body

pub is_valid-requires-clause-pre : goal.is_valid-requires-clause-pre
is_valid-requires-clause-pre c = rw c.in_ok-pre.ensures c.requires.cond

pub is_valid-requires-clause-post : goal.is_valid-requires-clause-post
is_valid-requires-clause-post c = rw c.in_ok-post.ensures c.requires.cond

pub returns : goal.returns
returns c =
    let cond = cond_tree c.args.cond.now in
    IfOk-weaker c.is_valid.result _ _
    (λ b d. valid_alike c.args.file.now (cond_tree c.in_ok-pre.pre) cond c.in_ok-copy.field-0 c.args.body.now (cond_tree c.in_ok-post.post) cond b c.in_ok-pre.ensures c.in_ok-copy.ensures c.in_ok-post.ensures d)
    c.is_valid.ensures
