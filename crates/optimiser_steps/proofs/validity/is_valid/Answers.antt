use Rattle.std.proofs.lemmas.Result.{IfOk-weaker}
use Rattle.kat_model.specs.Expressions.{cond_tree}
use Rattle.optimiser_steps.proofs.ValidGoals.{valid_by_goal}
use Rattle.optimiser_steps.proofs.validity.is_valid.Goals as goal

pub is_goal_same-requires : goal.is_goal_same-requires
is_goal_same-requires c = record { hyps = c.requires.hyps; goal = (c.requires.pre, c.requires.body, c.requires.post) }

pub returns : goal.returns
returns c =
    IfOk-weaker c.is_goal_same.result _ _ (valid_by_goal c.args.file.now (cond_tree c.args.pre) c.args.body (cond_tree c.args.post)) c.is_goal_same.ensures
