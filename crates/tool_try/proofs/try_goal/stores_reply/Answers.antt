use Rattle.tool_try.specs.Working.TrialStores.{goal_of_file, stores_within, has_tried}
use Rattle.tool_try.proofs.try_goal.stores_reply.Goals as goal

pub try_stores-requires-clause-concrete : goal.try_stores-requires-clause-concrete
try_stores-requires-clause-concrete c = goal_of_file c.args.file.now _ c.file.view_is c.args.stores.now c.requires.concrete

pub try_stores-requires-clause-within : goal.try_stores-requires-clause-within
try_stores-requires-clause-within c = stores_within c.args.file.now _ c.file.view_is c.args.stores.now c.requires.within

pub returns : goal.returns
returns c =
    has_tried c.args.file.now _ c.file.view_is c.args.stores.now c.args.turns c.in_ok-trial.trial c.trial_status.result c.in_ok-trial_text.field-0.items
    c.in_ok-trial.ensures c.trial_status.ensures c.in_ok-trial_text.ensures
