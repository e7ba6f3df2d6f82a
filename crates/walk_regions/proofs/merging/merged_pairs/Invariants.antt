use Rattle.std.proofs.Common.{[]}
use Rattle.kat_model.specs.Members.{Has}
use Rattle.term_nodes.specs.Growth.{Grows}
use Rattle.certificate.specs.PairParts.{PairParts}
use Rattle.test_diagrams.specs.Functions.{KeepsFunctions}
use Rattle.walk_regions.specs.Working.StoredTests.{AreTestsFor}
use Rattle.walk_regions.specs.Merging.{IsMergedPair, AreFirst}
use Rattle.walk_regions.proofs.MergedIds.{AreCovered, AreEarly}
use Rattle.walk_regions.proofs.merging.merged_pairs.Given as goal

-- each entry so far has its pair
abbrev pub invariant-loop-place : goal.invariant-loop-place
invariant-loop-place l = record {
  grows : Grows l.initial.store l.store;
  kept : KeepsFunctions l.initial.diagrams l.diagrams;
  table : AreTestsFor l.store l.diagrams l.table.tests.entries;
  firsts : AreFirst l.entries.items [] l.pairs.items;
  covers : AreCovered l.entries.items l.pairs.items l.place;
  early : AreEarly l.entries.items l.pairs.items l.place;
  each : (p : PairParts) → Has l.pairs.items p → IsMergedPair l.store l.initial.diagrams l.entries.items p;
}
