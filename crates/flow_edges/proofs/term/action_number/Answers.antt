use Rattle.flow_problem.specs.Edges.{is_same_action}
use Rattle.flow_edges.specs.EdgeViews.{flow_action}
use Rattle.flow_edges.proofs.TableRows.{number_of}
use Rattle.flow_edges.proofs.term.action_number.Goals as goal

pub returns : goal.returns
returns c = number_of flow_action is_same_action c.args.actions.now c.args.action.now c.place_of.result c.unwrap_or.result c.place_of.ensures c.unwrap_or.ensures
