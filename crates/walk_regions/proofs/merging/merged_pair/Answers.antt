use Rattle.std.proofs.Common.{◌≡◌, List, sym, ap, ◌∙◌, subst}
use Rattle.std.proofs.lemmas.Result.{IfOk-weaker}
use Rattle.term_nodes.proofs.Growing.{Grows-itself}
use Rattle.test_diagrams.proofs.Kept.{KeepsFunctions-trans}
use Rattle.walk_regions.specs.Entries.{EntryParts}
use Rattle.walk_regions.specs.Merging.{AreAtomsOf}
use Rattle.walk_regions.proofs.DiagramTests.{table_later}
use Rattle.walk_regions.proofs.MergedIds.{pair_of_atoms}
use Rattle.walk_regions.proofs.PartCases.{always_ok}
use Rattle.walk_regions.proofs.merging.merged_pair.Goals as goal

pub all_atoms_of-requires : goal.all_atoms_of-requires
all_atoms_of-requires c = record { tests = c.requires.tests }

pub test_of-requires-clause-id : goal.test_of-requires-clause-id
test_of-requires-clause-id c = c.in_ok-atoms.ensures.atoms.is_id

pub test_of-requires-clause-table : goal.test_of-requires-clause-table
test_of-requires-clause-table c = table_later c.args.store.now c.args.store.now c.args.diagrams.now c.all_atoms_of.new.diagrams c.args.table.now.tests.entries (Grows-itself c.args.store.now) c.in_ok-atoms.ensures.kept c.requires.table

pub returns-in_err-atoms-clause-grows : goal.returns-in_err-atoms-clause-grows
returns-in_err-atoms-clause-grows c = Grows-itself c.args.store.now

pub returns-in_err-test-clause-kept : goal.returns-in_err-test-clause-kept
returns-in_err-test-clause-kept c = KeepsFunctions-trans _ _ _ c.in_ok-atoms.ensures.kept c.in_err-test.ensures.kept

pub returns-clause-left : goal.returns-clause-left
returns-clause-left c = IfOk-weaker c.stored_pair.result _ _ (λ p is. is.0) c.stored_pair.ensures

pub returns-clause-right : goal.returns-clause-right
returns-clause-right c = IfOk-weaker c.stored_pair.result _ _ (λ p is. is.1) c.stored_pair.ensures

pub returns-clause-pair : goal.returns-clause-pair
returns-clause-pair c =
    let d = c.args.diagrams.now in
    let e = c.all_atoms_of.new.diagrams in
    let f = c.test_of.new.diagrams in
    let es : List EntryParts = c.args.entries.now.items in
    let own : EntryParts = c.args.entry.now in
    let left : c.as_slice-left.result.now ≡ own.left = c.as_slice-left.ensures ∙ ap (λ (x : EntryParts). x.left) c.entry.view_is in
    let right : c.as_slice-right.result.now ≡ own.right = c.as_slice-right.ensures ∙ ap (λ (x : EntryParts). x.right) c.entry.view_is in
    IfOk-weaker c.stored_pair.result _ _
    (λ p is.
    pair_of_atoms c.test_of.new.store d e f es p c.in_ok-atoms.atoms c.in_ok-test.test c.in_ok-atoms.ensures.kept c.in_ok-test.ensures.kept is.2
    (subst (λ l. AreAtomsOf d e es l p.right c.in_ok-atoms.atoms) (left ∙ sym is.0) (subst (λ r. AreAtomsOf d e es c.as_slice-left.result.now r c.in_ok-atoms.atoms) (right ∙ sym is.1) c.in_ok-atoms.ensures.atoms))
    c.in_ok-test.ensures.test)
    c.stored_pair.ensures

pub returns-clause-table : goal.returns-clause-table
returns-clause-table c = always_ok c.stored_pair.result c.in_ok-test.ensures.table

pub returns-clause-kept : goal.returns-clause-kept
returns-clause-kept c = KeepsFunctions-trans _ _ _ c.in_ok-atoms.ensures.kept c.in_ok-test.ensures.kept
