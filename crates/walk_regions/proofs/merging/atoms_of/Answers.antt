use Rattle.std.proofs.Common.{List, take, subst}
use Rattle.std.proofs.lemmas.List.{take_all}
use Rattle.test_diagrams.proofs.Kept.{KeepsFunctions-itself, KeepsFunctions-trans}
use Rattle.walk_regions.specs.Entries.{EntryParts}
use Rattle.walk_regions.specs.Merging.{AreAtomsOf}
use Rattle.walk_regions.proofs.PartCases.{front_more}
use Rattle.partial_derivs.proofs.Items.{has_item}
use Rattle.walk_regions.proofs.MergedIds.{atoms_none}
use Rattle.walk_regions.proofs.merging.atoms_of.Goals as goal

pub loop-entry-init : goal.loop-entry-init
loop-entry-init c = record { kept = KeepsFunctions-itself c.args.diagrams.now; atoms = atoms_none c.args.diagrams.now c.args.diagrams.now c.args.left.now c.args.right.now c.constant-id.result c.constant-id.ensures.function }

pub with_atoms-requires-clause-id : goal.with_atoms-requires-clause-id
with_atoms-requires-clause-id c = c.loop-entry.invariant.atoms.is_id

pub with_atoms-requires-clause-test : goal.with_atoms-requires-clause-test
with_atoms-requires-clause-test c = c.loop-entry.invariant.kept.ids c.entry-item.result.test (c.requires.tests c.entry-item.result (has_item c.args.entries.now c.loop-entry.entry-index c.entry-item.result c.loop-entry-test.true c.entry-item.is))

pub loop-entry-preserved : goal.loop-entry-preserved
loop-entry-preserved c =
    let before = c.loop-entry.invariant in
    let start = c.args.diagrams.now in
    let d = c.with_atoms.new.diagrams in
    let es : List EntryParts = c.args.entries.now in
    let k = c.loop-entry.entry-index in
    let e : EntryParts = c.entry-item.result in
    let member = has_item es k e c.loop-entry-test.true c.entry-item.is in
    let step = c.in_ok-id.ensures in
    record {
      kept = KeepsFunctions-trans start c.loop-entry.diagrams d before.kept step.kept;
      atoms = front_more (λ (xs : List EntryParts). AreAtomsOf start d xs c.args.left.now c.args.right.now c.in_ok-id.id) es k e c.loop-entry-test.true c.entry-item.is
          (step.atoms start (take k es) before.kept (c.requires.tests e member) before.atoms);
    }

pub returns-clause-atoms : goal.returns-clause-atoms
returns-clause-atoms c =
    let es : List EntryParts = c.args.entries.now in
    subst (λ (xs : List EntryParts). AreAtomsOf c.args.diagrams.now c.loop-entry.diagrams xs c.args.left.now c.args.right.now c.loop-entry.id) (take_all c.loop-entry.entry-index es c.loop-entry-test.false) c.loop-entry.invariant.atoms

pub returns-in_err-id-clause-kept : goal.returns-in_err-id-clause-kept
returns-in_err-id-clause-kept c = KeepsFunctions-trans _ _ _ c.loop-entry.invariant.kept c.in_err-id.ensures.kept

pub returns-clause-kept : goal.returns-clause-kept
returns-clause-kept c = c.loop-entry.invariant.kept
