use Rattle.std.proofs.Common.{◌≡◌, ℕ, ◌+◌, List, length, take}
use Rattle.std.specs.BTreeMap.{get_by_text}
use Rattle.flow_text.specs.Checking.{found, block_names}
use Rattle.flow_syntax.specs.SyntaxViews.{blocks_syntax}
use Rattle.flow_text.proofs.check_blocks.block_names.Given as goal

-- the names of the last blocks, numbered from `number` on
abbrev pub invariant-loop-block : goal.invariant-loop-block
invariant-loop-block l = record {
  numbered : l.number + l.block-index ≡ length l.blocks;
  known : (text : List ℕ) → get_by_text l.names.numbers text ≡ found (block_names l.number (blocks_syntax (take l.block-index l.blocks))) text;
}
