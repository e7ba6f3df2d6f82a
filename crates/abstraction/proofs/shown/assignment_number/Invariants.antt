use Rattle.std.proofs.Common.{◌≡◌, ◌+◌, length, drop}
use Rattle.std.specs.List.{position_from}
use Rattle.abstraction.specs.Tables.{is_same_assignment}
use Rattle.abstraction.specs.ShownTables.{declared_actions, row_assignments}
use Rattle.abstraction.proofs.shown.assignment_number.Given as goal

-- the assignment is searched for among the remaining rows, whose assignments are numbered from here on
abbrev pub invariant-loop-row : goal.invariant-loop-row
invariant-loop-row l = record {
  rest : position_from (is_same_assignment l.assignment) l.number (row_assignments (drop l.row-index l.rows)) ≡ position_from (is_same_assignment l.assignment) (declared_actions l.rows) (row_assignments l.rows);
  count : l.number + length (row_assignments (drop l.row-index l.rows)) ≡ length l.rows;
}
