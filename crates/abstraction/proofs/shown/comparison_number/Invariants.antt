use Rattle.std.proofs.Common.{◌≡◌, ◌+◌, length, drop}
use Rattle.std.specs.List.{position_from}
use Rattle.linear_forms.specs.Sameness.{is_same_comparison}
use Rattle.abstraction.specs.ShownTables.{declared_tests, row_comparisons}
use Rattle.abstraction.proofs.shown.comparison_number.Given as goal

-- the comparison is searched for among the remaining rows, whose comparisons are numbered from here on
abbrev pub invariant-loop-row : goal.invariant-loop-row
invariant-loop-row l = record {
  rest : position_from (is_same_comparison l.atomic) l.number (row_comparisons (drop l.row-index l.rows)) ≡ position_from (is_same_comparison l.atomic) (declared_tests l.rows) (row_comparisons l.rows);
  count : l.number + length (row_comparisons (drop l.row-index l.rows)) ≡ length l.rows;
}
