use Rattle.std.proofs.Common.{◌≡◌, ⊎_elim, ℕ, List, Some, slice_get, get_or, take, sym, subst}
use Rattle.std.proofs.lemmas.List.{take_all, take_more}
use Rattle.kat_model.specs.Members.{Has}
use Rattle.kat_model.proofs.Lists.{has_pushed}
use Rattle.kat_model.proofs.Places.{place_of_member}
use Rattle.walk_regions.specs.Entries.{EntryParts}
use Rattle.walk_regions.proofs.listing.alike_entries.Goals as goal

pub loop-place-preserved : goal.loop-place-preserved
loop-place-preserved c =
    let before = c.loop-place.invariant in
    let step = c.in_ok-add_alike.ensures in
    let es : List EntryParts = c.as_slice-all.result.now in
    let ks : List ℕ = c.places-places.result.now in
    let n = c.loop-place.place-index in
    let j : ℕ = get_or ks n 0 in
    record {
      all = λ k e h at l r.
          ⊎_elim
          (λ old. step.kept e (before.all k e old at l r))
          (λ last. step.added e (subst (λ i. slice_get es i ≡ Some e) (sym last) at) l r)
          (has_pushed (take n ks) j k (subst (λ js. Has js k) (take_more ks n 0 c.loop-place-test.true) h));
      each = λ e h. ⊎_elim (before.each e) (λ m. m) (step.each e h);
    }

pub returns : goal.returns
returns c =
    let es : List EntryParts = c.args.entries.now.items in
    let ks : List ℕ = c.places-places.result.now in
    let whole = c.loop-place.invariant in
    record {
      all = λ e h l r.
          let k = place_of_member es e h in
          whole.all k.0 e (subst (λ js. Has js k.0) (sym (take_all c.loop-place.place-index ks c.loop-place-test.false)) (c.places-places.ensures k.0 e k.1 l r))
          (subst (λ (xs : List EntryParts). slice_get xs k.0 ≡ Some e) (sym c.as_slice-all.ensures) k.1) l r;
      each = λ e h. subst (λ (xs : List EntryParts). Has xs e) c.as_slice-all.ensures (whole.each e h);
    }
