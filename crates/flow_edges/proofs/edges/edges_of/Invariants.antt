use Rattle.std.proofs.Common.{◌≡◌, [], map}
use Rattle.flow_ways.specs.WayTrees.{way_tree}
use Rattle.flow_problem.specs.Edges.{edge_of}
use Rattle.flow_edges.specs.EdgeViews.{flow_edge}
use Rattle.flow_edges.specs.EdgeTables.{table_marks}
use Rattle.flow_edges.proofs.edges.edges_of.Given as goal

-- the edges of the ways so far
abbrev pub invariant-loop-way : goal.invariant-loop-way
invariant-loop-way l = map flow_edge l.edges.items ≡ map (edge_of (table_marks [] l.live) l.sorts) (map way_tree l.yielded)
