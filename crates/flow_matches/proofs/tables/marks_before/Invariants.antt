use Rattle.std.proofs.Common.{length, take}
use Rattle.flow_model.specs.declared.block_match.BlockMatch.{BlockMatch}
use Rattle.flow_matches.proofs.MarkedBlocks.{AreSet}
use Rattle.flow_matches.proofs.tables.marks_before.Given as goal

-- the blocks of the matches so far are marked
abbrev pub invariant-loop-one : goal.invariant-loop-one
invariant-loop-one l = AreSet (λ (m : BlockMatch). m.before) (length l.blocks) l.marks.items (take l.one-index l.matches)
