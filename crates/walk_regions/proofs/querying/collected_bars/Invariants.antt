use Rattle.partial_derivs.specs.Moves.{Keeps}
use Rattle.partial_derivs.specs.Tables.{AreRight}
use Rattle.walk_regions.specs.Working.Querying.{AreBarsSoFar}
use Rattle.walk_regions.proofs.querying.collected_bars.Given as goal

abbrev pub invariant-loop-guarded : goal.invariant-loop-guarded
invariant-loop-guarded l = record {
  kept : Keeps l.initial.store l.store l.initial.diagrams l.diagrams;
  right : AreRight l.store l.diagrams l.derivatives;
  so_far : AreBarsSoFar l.store l.diagrams l.moves l.guarded-index l.bars.items l.queried;
}
