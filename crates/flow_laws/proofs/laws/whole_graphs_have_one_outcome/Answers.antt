use Rattle.flow_laws.proofs.OneOutcome.{whole_outcomes}
use Rattle.flow_laws.proofs.laws.whole_graphs_have_one_outcome.Goals as goal

pub returns : goal.returns
returns c = whole_outcomes
