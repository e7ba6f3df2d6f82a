use Rattle.std.proofs.Common.{◌≡◌, true, take, map}
use Rattle.flow_model.specs.WholeGraphs.{are_whole_blocks}
use Rattle.flow_pieces.specs.PieceGraphs.{Side, inside, block_at}
use Rattle.flow_matches.specs.Working.SideViews.{IsSide, AddsBlocks}
use Rattle.flow_matches.specs.Working.WholeSides.{AddsWholeBlocks}
use Rattle.flow_matches.proofs.side.push_inside.Given as goal

-- the blocks so far
abbrev pub invariant-loop-number : goal.invariant-loop-number
invariant-loop-number l = record {
  added : (s : Side) → IsSide l.side l.blocks s → AddsBlocks l.initial.list l.list (map (λ k. block_at s (inside k)) (take l.number-index l.side.inside.items));
  whole : are_whole_blocks l.blocks ≡ true → AddsWholeBlocks l.initial.list l.list;
}
