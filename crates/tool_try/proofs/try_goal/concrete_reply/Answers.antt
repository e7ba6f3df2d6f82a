use Rattle.store_trials.proofs.FalseGoals.{concrete_goal}
use Rattle.tool_try.proofs.try_goal.concrete_reply.Goals as goal

pub stores_reply-requires-clause-concrete : goal.stores_reply-requires-clause-concrete
stores_reply-requires-clause-concrete c = concrete_goal c.args.file.now c.requires.concrete c.requires.numbered.goal
