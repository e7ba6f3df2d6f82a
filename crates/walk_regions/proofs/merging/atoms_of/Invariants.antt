use Rattle.std.proofs.Common.{take}
use Rattle.test_diagrams.specs.Functions.{KeepsFunctions}
use Rattle.walk_regions.specs.Merging.{AreAtomsOf}
use Rattle.walk_regions.proofs.merging.atoms_of.Given as goal

abbrev pub invariant-loop-entry : goal.invariant-loop-entry
invariant-loop-entry l = record {
  kept : KeepsFunctions l.initial.diagrams l.diagrams;
  atoms : AreAtomsOf l.initial.diagrams l.diagrams (take l.entry-index l.entries) l.left l.right l.id;
}
