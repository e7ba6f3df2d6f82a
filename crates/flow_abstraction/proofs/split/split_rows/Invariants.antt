use Rattle.std.proofs.Common.{◌≡◌, ◌++◌, map}
use Rattle.flow_forms.specs.Comparisons.{comparison_tree}
use Rattle.flow_problem.specs.Splits.{cell_tests, split_edges}
use Rattle.flow_edges.specs.GraphRows.{row_edges}
use Rattle.flow_abstraction.specs.Working.Splits.{AreShort}
use Rattle.flow_abstraction.proofs.split.split_rows.Given as goal

-- the rows so far, and what the remaining ones become
abbrev pub invariant-loop-row : goal.invariant-loop-row
invariant-loop-row l =
    record {
      made : map row_edges l.list.items ++ map (split_edges l.sorts (cell_tests l.sorts (map comparison_tree l.tests))) (map row_edges l.row-iterator.rest.items)
          ≡ map (split_edges l.sorts (cell_tests l.sorts (map comparison_tree l.tests))) (map row_edges l.fn.rows.items);
      few : AreShort (map row_edges l.list.items);
    }
