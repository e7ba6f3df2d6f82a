use Rattle.std.proofs.Common.{◌≡◌, List, slice_get, Some, sym, ap, ◌∙◌, subst, refl}
use Rattle.std.proofs.lemmas.Option.{same_Some, slice_get-get_or}
use Rattle.walk_regions.specs.Entries.{EntryParts}
use Rattle.walk_regions.specs.Listings.{AreLevelAtoms}
use Rattle.walk_under.proofs.walk.TestedWorklist.taken_pair_at.Goals as goal

pub listed_atoms-requires : goal.listed_atoms-requires
listed_atoms-requires c = record { tests = c.requires.tests }

pub returns-clause-taken_pair : goal.returns-clause-taken_pair
returns-clause-taken_pair c e at =
    let ids : List EntryParts = c.args.self.now.listing.entries.items in
    let own : EntryParts = c.at-entry.result.now in
    let here : slice_get ids c.args.place ≡ Some own = slice_get-get_or ids c.args.place own c.requires.place ∙ ap (λ (x : EntryParts). Some x) (sym c.at-entry.ensures) in
    let same : own ≡ e = same_Some own e (sym here ∙ at) in
    record {
      level = ap (λ (x : EntryParts). x.level) (c.entry.view_is ∙ same);
      atoms = subst (λ (x : EntryParts). AreLevelAtoms c.listed_atoms.new.diagrams ids x c.in_ok-test.test) same c.in_ok-test.ensures.atoms;
    }

pub returns-in_err-test-clause-listing : goal.returns-in_err-test-clause-listing
returns-in_err-test-clause-listing c = refl

pub returns-in_err-test-clause-moves : goal.returns-in_err-test-clause-moves
returns-in_err-test-clause-moves c = refl

pub returns-in_err-test-clause-derivatives : goal.returns-in_err-test-clause-derivatives
returns-in_err-test-clause-derivatives c = refl

pub returns-clause-place : goal.returns-clause-place
returns-clause-place c = refl

pub returns-clause-listing : goal.returns-clause-listing
returns-clause-listing c = refl

pub returns-clause-moves : goal.returns-clause-moves
returns-clause-moves c = refl

pub returns-clause-derivatives : goal.returns-clause-derivatives
returns-clause-derivatives c = refl

pub returns-clause-kept : goal.returns-clause-kept
returns-clause-kept c = c.in_ok-test.ensures.kept
