use Rattle.std.proofs.Common.{◌≡◌, false, take}
use Rattle.std.specs.List.{list_any}
use Rattle.flow_pieces.specs.PieceGraphs.{has_block}
use Rattle.flow_matches.proofs.exits.have_shared_column.Given as goal

-- no column so far is a column of the other exit
abbrev pub invariant-loop-column : goal.invariant-loop-column
invariant-loop-column l = list_any (λ k. has_block l.other.columns.items k) (take l.column-index l.one.columns.items) ≡ false
