use Rattle.std.proofs.Common.{List, take, subst}
use Rattle.std.proofs.lemmas.List.{take_all}
use Rattle.test_diagrams.proofs.Kept.{KeepsFunctions-itself, KeepsFunctions-trans}
use Rattle.walk_regions.specs.Entries.{EntryParts}
use Rattle.walk_regions.specs.Listings.{AreLevelAtoms}
use Rattle.walk_regions.proofs.PartCases.{front_more, front_has}
use Rattle.partial_derivs.proofs.Items.{has_item}
use Rattle.walk_regions.proofs.LevelAtoms.{level_none}
use Rattle.walk_regions.proofs.listing.level_atoms.Goals as goal

pub loop-entry-init : goal.loop-entry-init
loop-entry-init c = record { kept = KeepsFunctions-itself c.args.diagrams.now; atoms = level_none c.args.diagrams.now c.args.pair.now c.constant-id.result c.constant-id.ensures.function }

pub with_entry-requires-clause-id : goal.with_entry-requires-clause-id
with_entry-requires-clause-id c = c.loop-entry.invariant.atoms.is_id

pub with_entry-requires-clause-test : goal.with_entry-requires-clause-test
with_entry-requires-clause-test c = c.loop-entry.invariant.kept.ids c.entry-item.result.test (c.requires.tests c.entry-item.result (has_item c.args.entries.now c.loop-entry.entry-index c.entry-item.result c.loop-entry-test.true c.entry-item.is))

pub loop-entry-preserved : goal.loop-entry-preserved
loop-entry-preserved c =
    let before = c.loop-entry.invariant in
    let d = c.with_entry.new.diagrams in
    let es : List EntryParts = c.args.entries.now in
    let k = c.loop-entry.entry-index in
    let e : EntryParts = c.entry-item.result in
    let step = c.in_ok-id.ensures in
    record {
      kept = KeepsFunctions-trans c.args.diagrams.now c.loop-entry.diagrams d before.kept step.kept;
      atoms = front_more (λ (xs : List EntryParts). AreLevelAtoms d xs c.args.pair.now c.in_ok-id.id) es k e c.loop-entry-test.true c.entry-item.is
          (step.atoms (take k es) (λ f h. before.kept.ids f.test (c.requires.tests f (front_has es k f h))) before.atoms);
    }

pub returns-clause-atoms : goal.returns-clause-atoms
returns-clause-atoms c =
    let es : List EntryParts = c.args.entries.now in
    subst (λ (xs : List EntryParts). AreLevelAtoms c.loop-entry.diagrams xs c.args.pair.now c.loop-entry.id) (take_all c.loop-entry.entry-index es c.loop-entry-test.false) c.loop-entry.invariant.atoms
