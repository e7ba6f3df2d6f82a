use Rattle.std.proofs.Common.{take}
use Rattle.test_diagrams.specs.Functions.{IsDiagramId, KeepsFunctions}
use Rattle.walk_regions.proofs.PartCases.{AreAlike}
use Rattle.walk_regions.proofs.parts.differing_part.Given as goal

abbrev pub invariant-loop-item : goal.invariant-loop-item
invariant-loop-item l = record {
  kept : KeepsFunctions l.initial.diagrams l.diagrams;
  is_id : IsDiagramId l.diagrams l.apart;
  alike : AreAlike l.initial.diagrams l.diagrams l.apart (take l.item-index l.items);
}
