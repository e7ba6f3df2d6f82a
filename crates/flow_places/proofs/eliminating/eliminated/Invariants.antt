use Rattle.std.proofs.Common.{◌≡◌, ◌-◌, map, length}
use Rattle.flow_places.specs.Rows.{row_tree, rows_term, rows_fit}
use Rattle.flow_places.proofs.eliminating.eliminated.Given as goal

-- the rows that are left have the term of all rows, and are within the limit exactly when these are
abbrev pub invariant-loop-rows : goal.invariant-loop-rows
invariant-loop-rows l = record {
  term : rows_term (length l.rows.items - 1) (map row_tree l.rows.items) ≡ rows_term (length l.initial.rows.items - 1) (map row_tree l.initial.rows.items);
  fits : rows_fit (length l.rows.items - 1) (map row_tree l.rows.items) ≡ rows_fit (length l.initial.rows.items - 1) (map row_tree l.initial.rows.items);
}

abbrev pub decreases-loop-rows : goal.decreases-loop-rows
decreases-loop-rows l = length l.rows.items
