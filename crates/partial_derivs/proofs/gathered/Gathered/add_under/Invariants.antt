use Rattle.std.proofs.Common.{take}
use Rattle.test_diagrams.specs.Functions.{KeepsFunctions}
use Rattle.partial_derivs.specs.Working.Gathered.{moves_of, AddsUnder}
use Rattle.partial_derivs.proofs.gathered.Gathered.add_under.Given as goal

-- the moves so far were added
abbrev pub invariant-loop-guarded : goal.invariant-loop-guarded
invariant-loop-guarded l = record {
  added : AddsUnder l.initial.diagrams l.diagrams (moves_of l.initial.self.guards.entries) (moves_of l.self.guards.entries) (take l.guarded-index l.moves) l.guard;
  kept : KeepsFunctions l.initial.diagrams l.diagrams;
}
