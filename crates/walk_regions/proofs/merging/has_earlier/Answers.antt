use Rattle.std.proofs.Common.{◌≡◌, ⊎_elim, ℕ, List, get_or, take, refl, sym, ap, ◌∙◌, subst}
use Rattle.std.proofs.lemmas.Bool.{both_ways, false≢true}
use Rattle.std.proofs.lemmas.List.{take_all, take_more}
use Rattle.kat_model.specs.Members.{Has}
use Rattle.kat_model.proofs.Lists.{has_pushed}
use Rattle.walk_regions.specs.Entries.{EntryParts}
use Rattle.walk_regions.specs.Merging.{IsEarlierAlike, HasEarlierAlike}
use Rattle.walk_regions.proofs.merging.has_earlier.Goals as goal

pub returns-then-is_earlier : goal.returns-then-is_earlier
returns-then-is_earlier c =
    let own : EntryParts = c.args.entry.now in
    let j : ℕ = get_or c.places-places.result.now c.loop-place.place-index 0 in
    ((λ h. subst (λ (es : List EntryParts). HasEarlierAlike es c.args.own own) c.as_slice-all.ensures (j, c.is_earlier.ensures.0 c.if-is_earlier.true)), (λ h. refl))

pub loop-place-preserved : goal.loop-place-preserved
loop-place-preserved c k h is =
    let ks : List ℕ = c.places-places.result.now in
    let n = c.loop-place.place-index in
    let j : ℕ = get_or ks n 0 in
    ⊎_elim
    (λ old. c.loop-place.invariant k old is)
    (λ last. both_ways c.is_earlier.result c.if-is_earlier.false (c.is_earlier.ensures.1 (subst (λ i. IsEarlierAlike c.as_slice-all.result.now i c.args.own c.args.entry.now) (sym last) is)))
    (has_pushed (take n ks) j k (subst (λ js. Has js k) (take_more ks n 0 c.loop-place-test.true) h))

pub returns : goal.returns
returns c =
    let ks : List ℕ = c.places-places.result.now in
    let own : EntryParts = c.args.entry.now in
    let left : c.as_slice.result.now ≡ own.left = c.as_slice.ensures ∙ ap (λ (x : EntryParts). x.left) c.entry.view_is in
    let right : c.as_slice-2.result.now ≡ own.right = c.as_slice-2.ensures ∙ ap (λ (x : EntryParts). x.right) c.entry.view_is in (
      (λ t. absurd (false≢true t)),
      (λ h.
          let a = h.1 in
          let there = c.places-places.ensures h.0 a.entry a.at (a.left_is ∙ sym left) (a.right_is ∙ sym right) in
          absurd (c.loop-place.invariant h.0 (subst (λ js. Has js h.0) (sym (take_all c.loop-place.place-index ks c.loop-place-test.false)) there) (subst (λ (es : List EntryParts). IsEarlierAlike es h.0 c.args.own own) (sym c.as_slice-all.ensures) a))),
    )
