use Rattle.std.proofs.Common.{◌≡◌, ◌++◌, map, take}
use Rattle.flow_places.specs.Rows.{row_tree, row_without}
use Rattle.flow_places.proofs.elimination.push_rows.Given as goal

-- the rows so far
abbrev pub invariant-loop-row : goal.invariant-loop-row
invariant-loop-row l = map row_tree l.list.items ≡ map row_tree l.initial.list.items ++ map (row_without (row_tree l.last)) (map row_tree (take l.row-index l.rows))
