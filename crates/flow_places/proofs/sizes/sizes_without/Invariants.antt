use Rattle.std.proofs.Common.{◌≡◌, ◌+◌, ◌<◌, ◌^◌, map, drop}
use Rattle.kat_model.specs.Problems.{counted}
use Rattle.flow_places.specs.Rows.{row_tree, row_without, rows_size}
use Rattle.flow_places.proofs.sizes.sizes_without.Given as goal

-- the total so far and the sizes of the remaining rows
abbrev pub invariant-loop-row : goal.invariant-loop-row
invariant-loop-row l = record {
  fits : l.total < 2 ^ 64;
  whole : counted (l.total + rows_size (map (row_without (row_tree l.last)) (map row_tree (drop l.row-index l.rows)))) ≡ counted (rows_size (map (row_without (row_tree l.last)) (map row_tree l.rows)));
}
