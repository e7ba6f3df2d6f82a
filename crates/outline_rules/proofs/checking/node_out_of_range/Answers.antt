use Rattle.outline_rules.proofs.NodeTests.{least_some, none_out}
use Rattle.outline_rules.proofs.checking.node_out_of_range.Goals as goal

pub returns-clause-least : goal.returns-clause-least
returns-clause-least c = least_some c.args.tests c.args.nodes.now c.first_out.result c.first_out.ensures

pub returns-clause-none : goal.returns-clause-none
returns-clause-none c = none_out c.args.tests c.args.nodes.now c.first_out.result c.first_out.ensures
