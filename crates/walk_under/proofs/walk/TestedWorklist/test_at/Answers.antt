use Rattle.std.proofs.Common.{◌≡◌, slice_get, Some, sym, ap, ◌∙◌}
use Rattle.std.proofs.lemmas.Option.{same_Some, slice_get-get_or}
use Rattle.walk_regions.specs.Entries.{EntryParts}
use Rattle.walk_under.proofs.walk.TestedWorklist.test_at.Goals as goal

pub returns : goal.returns
returns c e at =
    let own : EntryParts = c.at-entry.result.now in
    let here : slice_get c.args.self.now.listing.entries.items c.args.place ≡ Some own = slice_get-get_or c.args.self.now.listing.entries.items c.args.place own c.requires ∙ ap (λ (x : EntryParts). Some x) (sym c.at-entry.ensures) in
    ap (λ (x : EntryParts). x.test) (c.entry.view_is ∙ same_Some own e (sym here ∙ at))
