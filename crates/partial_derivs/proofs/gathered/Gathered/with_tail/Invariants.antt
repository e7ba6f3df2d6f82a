use Rattle.std.proofs.Common.{take}
use Rattle.partial_derivs.specs.Moves.{Keeps}
use Rattle.partial_derivs.specs.Working.Gathered.{moves_of, Follows}
use Rattle.partial_derivs.proofs.gathered.Gathered.with_tail.Given as goal

-- the moves so far were added, each followed by the term
abbrev pub invariant-loop-guarded : goal.invariant-loop-guarded
invariant-loop-guarded l = record {
  follows : Follows l.initial.store l.store l.initial.diagrams l.diagrams (moves_of l.gathered.guards.entries) (take l.guarded-index l.moves) l.tail;
  kept : Keeps l.initial.store l.store l.initial.diagrams l.diagrams;
}
