use Rattle.std.proofs.Common.{take}
use Rattle.walk_pairs.specs.Items.{opposite_of, AddsMoves, AddsTargets, AreKeyed}
use Rattle.walk_pairs.proofs.items.add_moves.Given as goal

abbrev pub invariant-loop-guarded : goal.invariant-loop-guarded
invariant-loop-guarded l = record {
  keyed : AreKeyed l.items.entries;
  added : AddsMoves l.never l.side (opposite_of l.side) l.initial.items.entries l.items.entries (take l.guarded-index l.moves) l.act;
  targets : AddsTargets l.initial.items.entries l.items.entries l.moves;
}
