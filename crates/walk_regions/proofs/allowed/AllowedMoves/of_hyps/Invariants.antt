use Rattle.std.proofs.Common.{◌≡◌, length}
use Rattle.partial_derivs.specs.Moves.{Keeps}
use Rattle.partial_derivs.specs.Tables.{AreRight}
use Rattle.walk_regions.proofs.Allowances.{AreActionBars}
use Rattle.walk_regions.proofs.allowed.AllowedMoves.of_hyps.Given as goal

abbrev pub invariant-loop-act : goal.invariant-loop-act
invariant-loop-act l = record {
  kept : Keeps l.initial.store l.store l.initial.diagrams l.diagrams;
  right : AreRight l.store l.diagrams l.derivatives;
  count : length l.list.items ≡ l.act;
  bars : AreActionBars l.store l.diagrams l.steps.moves.items l.list.items;
}
