use Rattle.std.proofs.Common.{◌≡◌, ⊎_elim, ℕ, List, Some, slice_get, get_or, take, sym, ap, ◌∙◌, subst}
use Rattle.std.proofs.lemmas.Bool.{both_ways}
use Rattle.std.proofs.lemmas.List.{take_all, take_more}
use Rattle.kat_model.specs.Members.{Has}
use Rattle.kat_model.proofs.Lists.{has_pushed}
use Rattle.kat_model.proofs.Places.{place_of_member}
use Rattle.walk_regions.specs.Entries.{EntryParts}
use Rattle.walk_regions.specs.Listings.{IsPlaceWith}
use Rattle.walk_regions.proofs.listing.place_with.Goals as goal

pub is_place_with-requires-clause-tests : goal.is_place_with-requires-clause-tests
is_place_with-requires-clause-tests c e h = c.requires.tests e (subst (λ (l : List EntryParts). Has l e) c.as_slice-all.ensures h)

pub returns-then-is_place_with : goal.returns-then-is_place_with
returns-then-is_place_with c =
    let j : ℕ = get_or c.places-places.result.now c.loop-place.place-index 0 in
    subst (λ (es : List EntryParts). IsPlaceWith c.args.diagrams.now es c.args.pair.now c.args.atom.now j) c.as_slice-all.ensures (c.is_place_with.ensures.0 c.if-is_place_with.true)

pub loop-place-preserved : goal.loop-place-preserved
loop-place-preserved c k h is =
    let ks : List ℕ = c.places-places.result.now in
    let n = c.loop-place.place-index in
    let j : ℕ = get_or ks n 0 in
    ⊎_elim
    (λ old. c.loop-place.invariant k old is)
    (λ last. both_ways c.is_place_with.result c.if-is_place_with.false (c.is_place_with.ensures.1 (subst (λ i. IsPlaceWith c.args.diagrams.now c.as_slice-all.result.now c.args.pair.now c.args.atom.now i) (sym last) is)))
    (has_pushed (take n ks) j k (subst (λ js. Has js k) (take_more ks n 0 c.loop-place-test.true) h))

pub returns : goal.returns
returns c =
    let ks : List ℕ = c.places-places.result.now in
    let es : List EntryParts = c.args.entries.now.items in
    let own : EntryParts = c.args.pair.now in
    let left : c.as_slice.result.now ≡ own.left = c.as_slice.ensures ∙ ap (λ (x : EntryParts). x.left) c.pair.view_is in
    let right : c.as_slice-2.result.now ≡ own.right = c.as_slice-2.ensures ∙ ap (λ (x : EntryParts). x.right) c.pair.view_is in
    let listed = c.requires.listed in
    let k = place_of_member es listed.entry listed.member in
    let there = c.places-places.ensures k.0 listed.entry k.1 (listed.is.left ∙ sym left) (listed.is.right ∙ sym right) in
    absurd (c.loop-place.invariant k.0 (subst (λ js. Has js k.0) (sym (take_all c.loop-place.place-index ks c.loop-place-test.false)) there)
    (record { entry = listed.entry; at = subst (λ (xs : List EntryParts). slice_get xs k.0 ≡ Some listed.entry) (sym c.as_slice-all.ensures) k.1; is = listed.is; holds = listed.holds }))
