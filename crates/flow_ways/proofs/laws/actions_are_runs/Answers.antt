use Rattle.flow_ways.proofs.ActionValues.{acts_as_run}
use Rattle.flow_ways.proofs.laws.actions_are_runs.Goals as goal

pub returns : goal.returns
returns c = acts_as_run
