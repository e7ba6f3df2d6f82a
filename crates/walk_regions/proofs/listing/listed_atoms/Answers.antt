use Rattle.std.proofs.Common.{◌≡◌, List, ap, ◌∙◌, subst}
use Rattle.std.proofs.lemmas.Result.{IfOk-weaker}
use Rattle.kat_model.specs.Members.{Has}
use Rattle.test_diagrams.proofs.Kept.{KeepsFunctions-itself}
use Rattle.walk_regions.specs.Entries.{EntryParts}
use Rattle.walk_regions.specs.Filing.{AreAlike}
use Rattle.walk_regions.specs.Listings.{AreLevelAtoms}
use Rattle.walk_regions.proofs.Filing.{level_all}
use Rattle.walk_regions.proofs.listing.listed_atoms.Goals as goal

pub returns-in_err-alike-clause-kept : goal.returns-in_err-alike-clause-kept
returns-in_err-alike-clause-kept c = KeepsFunctions-itself c.args.diagrams.now

pub level_atoms-requires : goal.level_atoms-requires
level_atoms-requires c = record { tests = λ e h. c.requires.tests e (c.in_ok-alike.ensures.each e (subst (λ (l : List EntryParts). Has l e) c.deref.ensures.value h)) }

pub returns-clause-atoms : goal.returns-clause-atoms
returns-clause-atoms c =
    let d = c.level_atoms.new.diagrams in
    let es : List EntryParts = c.args.entries.now.items in
    let own : EntryParts = c.args.pair.now in
    let found : List EntryParts = c.in_ok-alike.alike.items in
    let left : c.as_slice.result.now ≡ own.left = c.as_slice.ensures ∙ ap (λ (x : EntryParts). x.left) c.pair.view_is in
    let right : c.as_slice-2.result.now ≡ own.right = c.as_slice-2.ensures ∙ ap (λ (x : EntryParts). x.right) c.pair.view_is in
    let alike : AreAlike es own.left own.right found = subst (λ l. AreAlike es l own.right found) left (subst (λ r. AreAlike es c.as_slice.result.now r found) right c.in_ok-alike.ensures) in
    IfOk-weaker c.level_atoms.result _ _
    (λ id atoms. level_all es found own alike d id (subst (λ (l : List EntryParts). AreLevelAtoms d l own id) c.deref.ensures.value atoms))
    c.level_atoms.ensures.atoms
