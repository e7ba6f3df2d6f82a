use Rattle.std.proofs.Common.{take}
use Rattle.test_diagrams.specs.Functions.{KeepsFunctions}
use Rattle.walk_regions.specs.Listings.{AreLevelAtoms}
use Rattle.walk_regions.proofs.listing.level_atoms.Given as goal

abbrev pub invariant-loop-entry : goal.invariant-loop-entry
invariant-loop-entry l = record {
  kept : KeepsFunctions l.initial.diagrams l.diagrams;
  atoms : AreLevelAtoms l.diagrams (take l.entry-index l.entries) l.pair l.id;
}
