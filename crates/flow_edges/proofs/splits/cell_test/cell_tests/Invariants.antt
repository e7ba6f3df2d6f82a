use Rattle.std.proofs.Common.{◌≡◌, map, take}
use Rattle.flow_forms.specs.Comparisons.{comparison_tree}
use Rattle.flow_problem.specs.Splits.{cell_tests}
use Rattle.flow_edges.specs.CellTests.{cell_test_tree}
use Rattle.flow_edges.proofs.splits.cell_test.cell_tests.Given as goal

-- the tests so far
abbrev pub invariant-loop-comparison : goal.invariant-loop-comparison
invariant-loop-comparison l = map cell_test_tree l.list.items ≡ cell_tests l.sorts (map comparison_tree (take l.comparison-index l.tests))
