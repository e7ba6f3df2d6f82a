use Rattle.std.proofs.Common.{◌≡◌, List, Some, slice_get, sym, ap, ◌∙◌, subst}
use Rattle.std.specs.Bool.{IsTrue}
use Rattle.std.proofs.lemmas.Bool.{false≢true}
use Rattle.std.proofs.lemmas.Option.{same_Some, slice_get-get_or, slice_get_past}
use Rattle.kat_model.proofs.Places.{has_at}
use Rattle.test_diagrams.specs.Functions.{value_of}
use Rattle.walk_regions.specs.Entries.{EntryParts}
use Rattle.walk_regions.specs.Listings.{IsWith}
use Rattle.walk_regions.proofs.listing.is_place_with.Goals as goal

pub is_reached_with-requires-clause-test : goal.is_reached_with-requires-clause-test
is_reached_with-requires-clause-test c =
    let es : List EntryParts = c.args.entries.now in
    let e : EntryParts = c.in-Some.entry.now in
    let found = c.in-Some.ensures.lookup in
    c.requires.tests e (has_at es c.args.place e (slice_get-get_or es c.args.place e found.3.0 ∙ ap (λ (x : EntryParts). Some x) (sym found.1)))

pub returns-in-Some : goal.returns-in-Some
returns-in-Some c =
    let es : List EntryParts = c.args.entries.now in
    let e : EntryParts = c.in-Some.entry.now in
    let found = c.in-Some.ensures.lookup in
    let at : slice_get es c.args.place ≡ Some e = slice_get-get_or es c.args.place e found.3.0 ∙ ap (λ (x : EntryParts). Some x) (sym found.1) in (
      (λ t. let r = c.is_reached_with.ensures.0 t in record { entry = e; at = at; is = r.0; holds = r.1 }),
      (λ p.
          let same : p.entry ≡ e = same_Some p.entry e (sym p.at ∙ at) in
          c.is_reached_with.ensures.1 (subst (λ (x : EntryParts). IsWith x c.args.pair.now × IsTrue (value_of c.args.diagrams.now x.test c.args.atom.now)) same (p.is, p.holds))),
    )

pub returns-in-None : goal.returns-in-None
returns-in-None c = (
  (λ t. absurd (false≢true t)),
  (λ p. let none = sym p.at ∙ slice_get_past c.args.entries.now c.args.place c.in-None.ensures.lookup.3 in absurd cc),
)
