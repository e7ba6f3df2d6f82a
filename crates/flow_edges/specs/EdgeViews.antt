-- The actions and edges of the program.
use Rattle.std.specs.Prelude.{map}
use Rattle.flow_ways.specs.CondTrees.{cond_tree}
use Rattle.flow_ways.specs.ActionTrees.{set_tree}
use Rattle.flow_ways.specs.WayTrees.{sorted_form}
use Rattle.flow_problem.specs.Edges.{FlowActionTree, assigned, given, Edge}
use Rattle.flow_edges.specs.declared.action.FlowAction.{FlowAction}
use Rattle.flow_edges.specs.declared.action.FlowAction.TheVariants.{Assigned, Given}
use Rattle.flow_edges.specs.declared.edge.FlowEdge.{FlowEdge}

abbrev pub flow_action : FlowAction → FlowActionTree
flow_action (Assigned forms) = assigned (map set_tree forms.items)
flow_action (Given results) = given (map sorted_form results.items)

abbrev pub flow_edge : FlowEdge → Edge
flow_edge e = record { tests = map cond_tree e.tests.items; action = flow_action e.action; target = e.target }
