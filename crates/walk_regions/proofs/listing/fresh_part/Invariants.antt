use Rattle.std.proofs.Common.{take}
use Rattle.test_diagrams.specs.Functions.{KeepsFunctions}
use Rattle.walk_regions.specs.Listings.{IsFreshPart}
use Rattle.walk_regions.proofs.listing.fresh_part.Given as goal

abbrev pub invariant-loop-entry : goal.invariant-loop-entry
invariant-loop-entry l = record {
  kept : KeepsFunctions l.initial.diagrams l.diagrams;
  part : IsFreshPart l.diagrams (take l.entry-index l.entries) l.left l.right l.fn.within l.id;
}
