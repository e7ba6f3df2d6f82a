use Rattle.std.proofs.Common.{◌≡◌, slice_get, Some, sym, ap, ◌∙◌, subst}
use Rattle.std.proofs.lemmas.Option.{same_Some, slice_get-get_or}
use Rattle.walk_regions.specs.Entries.{EntryParts}
use Rattle.walk_regions.specs.Listings.{IsPlaceWith}
use Rattle.walk_under.proofs.walk.TestedWorklist.place_at.Goals as goal

pub place_with-requires-clause-tests : goal.place_with-requires-clause-tests
place_with-requires-clause-tests c = c.requires.tests

pub place_with-requires-clause-atom : goal.place_with-requires-clause-atom
place_with-requires-clause-atom c = c.requires.atom

pub place_with-requires-clause-listed : goal.place_with-requires-clause-listed
place_with-requires-clause-listed c =
    let w = c.args.self.now in
    let own : EntryParts = c.at-pair.result.now in
    let here : slice_get w.listing.entries.items c.args.place ≡ Some own = slice_get-get_or w.listing.entries.items c.args.place own c.requires.place ∙ ap (λ (x : EntryParts). Some x) (sym c.at-pair.ensures) in
    c.requires.listed own here

pub returns : goal.returns
returns c e at =
    let w = c.args.self.now in
    let own : EntryParts = c.at-pair.result.now in
    let here : slice_get w.listing.entries.items c.args.place ≡ Some own = slice_get-get_or w.listing.entries.items c.args.place own c.requires.place ∙ ap (λ (x : EntryParts). Some x) (sym c.at-pair.ensures) in
    let same : own ≡ e = same_Some own e (sym here ∙ at) in
    subst (λ (x : EntryParts). IsPlaceWith w.diagrams w.listing.entries.items x c.args.atom.now c.place_with.result) same c.place_with.ensures
