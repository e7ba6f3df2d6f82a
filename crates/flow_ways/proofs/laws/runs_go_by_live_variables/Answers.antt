use Rattle.flow_ways.proofs.LiveRuns.{sorted_runs_alike}
use Rattle.flow_ways.proofs.laws.runs_go_by_live_variables.Goals as goal

pub returns : goal.returns
returns c = sorted_runs_alike
