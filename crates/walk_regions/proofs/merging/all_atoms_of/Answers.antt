use Rattle.std.proofs.Common.{List, subst}
use Rattle.std.proofs.lemmas.Result.{IfOk-weaker}
use Rattle.kat_model.specs.Members.{Has}
use Rattle.test_diagrams.proofs.Kept.{KeepsFunctions-itself}
use Rattle.walk_regions.specs.Entries.{EntryParts}
use Rattle.walk_regions.specs.Merging.{AreAtomsOf}
use Rattle.walk_regions.proofs.Filing.{atoms_all}
use Rattle.walk_regions.proofs.merging.all_atoms_of.Goals as goal

pub returns-in_err-alike-clause-kept : goal.returns-in_err-alike-clause-kept
returns-in_err-alike-clause-kept c = KeepsFunctions-itself c.args.diagrams.now

pub atoms_of-requires : goal.atoms_of-requires
atoms_of-requires c = record { tests = λ e h. c.requires.tests e (c.in_ok-alike.ensures.each e (subst (λ (l : List EntryParts). Has l e) c.deref.ensures.value h)) }

pub returns-clause-atoms : goal.returns-clause-atoms
returns-clause-atoms c =
    let b = c.args.diagrams.now in
    let d = c.atoms_of.new.diagrams in
    let left = c.args.left.now in
    let right = c.args.right.now in
    IfOk-weaker c.atoms_of.result _ _
    (λ id atoms. atoms_all c.args.entries.now.items c.in_ok-alike.alike.items left right c.in_ok-alike.ensures b d id
    (subst (λ (l : List EntryParts). AreAtomsOf b d l left right id) c.deref.ensures.value atoms))
    c.atoms_of.ensures.atoms

pub returns-clause-kept : goal.returns-clause-kept
returns-clause-kept c = c.atoms_of.ensures.kept
