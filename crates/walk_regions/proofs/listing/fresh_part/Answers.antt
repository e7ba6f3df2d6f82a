use Rattle.std.proofs.Common.{List, take, subst}
use Rattle.std.proofs.lemmas.List.{take_all}
use Rattle.test_diagrams.proofs.Kept.{KeepsFunctions-itself, KeepsFunctions-trans}
use Rattle.walk_regions.specs.Entries.{EntryParts}
use Rattle.walk_regions.specs.Listings.{IsFreshPart}
use Rattle.walk_regions.proofs.PartCases.{front_more, front_has}
use Rattle.partial_derivs.proofs.Items.{has_item}
use Rattle.walk_regions.proofs.FreshParts.{fresh_none, fresh_more}
use Rattle.walk_regions.proofs.listing.fresh_part.Goals as goal

pub loop-entry-init : goal.loop-entry-init
loop-entry-init c = record { kept = KeepsFunctions-itself c.args.diagrams.now; part = fresh_none c.args.diagrams.now c.args.left.now c.args.right.now c.args.within c.requires.within }

pub without_pair-requires-clause-id : goal.without_pair-requires-clause-id
without_pair-requires-clause-id c = c.loop-entry.invariant.part.is_id

pub without_pair-requires-clause-test : goal.without_pair-requires-clause-test
without_pair-requires-clause-test c = c.loop-entry.invariant.kept.ids c.entry-item.result.test (c.requires.tests c.entry-item.result (has_item c.args.entries.now c.loop-entry.entry-index c.entry-item.result c.loop-entry-test.true c.entry-item.is))

pub loop-entry-preserved : goal.loop-entry-preserved
loop-entry-preserved c =
    let before = c.loop-entry.invariant in
    let b = c.loop-entry.diagrams in
    let d = c.without_pair.new.diagrams in
    let es : List EntryParts = c.args.entries.now in
    let k = c.loop-entry.entry-index in
    let e : EntryParts = c.entry-item.result in
    let member = has_item es k e c.loop-entry-test.true c.entry-item.is in
    let step = c.in_ok-id.ensures in
    record {
      kept = KeepsFunctions-trans c.args.diagrams.now b d before.kept step.kept;
      part = front_more (λ (xs : List EntryParts). IsFreshPart d xs c.args.left.now c.args.right.now c.args.within c.in_ok-id.id) es k e c.loop-entry-test.true c.entry-item.is
          (fresh_more b d step.kept (take k es) e c.args.left.now c.args.right.now c.args.within c.loop-entry.id c.in_ok-id.id
          (λ f h. before.kept.ids f.test (c.requires.tests f (front_has es k f h))) (before.kept.ids e.test (c.requires.tests e member)) (before.kept.ids c.args.within c.requires.within) before.part step.without);
    }

pub returns-clause-part : goal.returns-clause-part
returns-clause-part c =
    let es : List EntryParts = c.args.entries.now in
    subst (λ (xs : List EntryParts). IsFreshPart c.loop-entry.diagrams xs c.args.left.now c.args.right.now c.args.within c.loop-entry.id) (take_all c.loop-entry.entry-index es c.loop-entry-test.false) c.loop-entry.invariant.part
