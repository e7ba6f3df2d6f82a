use Rattle.std.proofs.Common.{◌≡◌, map, flat_map}
use Rattle.flow_problem.specs.Splits.{split_edge}
use Rattle.flow_edges.specs.EdgeViews.{flow_edge}
use Rattle.flow_edges.specs.CellTests.{cell_test_tree}
use Rattle.flow_edges.proofs.splits.split_once.Given as goal

-- what the edges so far are split into
abbrev pub invariant-loop-edge : goal.invariant-loop-edge
invariant-loop-edge l = map flow_edge l.list.items ≡ flat_map (split_edge l.sorts (cell_test_tree l.test)) (map flow_edge l.yielded)
