use Rattle.std.proofs.Common.{refl}
use Rattle.std.proofs.lemmas.Result.{IfOk-weaker}
use Rattle.kat_model.specs.Expressions.{always, negation, cond_tree}
use Rattle.while_lang.specs.Programs.{empty}
use Rattle.optimiser_steps.proofs.ValidGoals.{valid_alike}
use Rattle.optimiser_steps.proofs.validity.holds_never.Goals as goal

pub holds_always-requires-clause-cond : goal.holds_always-requires-clause-cond
holds_always-requires-clause-cond c = rw c.in_ok-opposite.ensures c.requires.cond

pub returns : goal.returns
returns c =
    IfOk-weaker c.holds_always.result _ _
    (λ b d. valid_alike c.args.file.now always always empty empty (cond_tree c.in_ok-opposite.opposite) (negation (cond_tree c.args.cond.now)) b refl refl c.in_ok-opposite.ensures d)
    c.holds_always.ensures
