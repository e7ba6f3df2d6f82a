use Rattle.std.proofs.Common.{◌≡◌, ◌-◌, ⊎_elim, ℕ, length, List, true, false, slice_get, get_or, sym, ap, ◌∙◌, subst}
use Rattle.std.proofs.lemmas.List.{take_all}
use Rattle.kat_model.specs.Members.{Has}
use Rattle.certificate.specs.PairParts.{PairParts}
use Rattle.cert_checker.specs.Indices.{places_at, places_by}
use Rattle.cert_checker.specs.Questions.{ActionPassParts}
use Rattle.cert_checker.proofs.FoundPairs.{is_found, other_more, other_unfound, found_listed, none_listed}
use Rattle.cert_checker.proofs.matching.are_listed.Goals as goal

pub returns-then-has_sets : goal.returns-then-has_sets
returns-then-has_sets c =
    let counted = c.args.counted.now in
    let ps : List PairParts = counted.action_pass.now.pairs in
    let ks : List ℕ = c.args.sides.now.left.sure.items in
    let ls : List ℕ = c.args.sides.now.right.sure.items in
    let j : ℕ = get_or c.shorter-places.result.now c.loop-place.place-index 0 in
    let given : is_found ps counted.also_open counted.known.now ks ls j ≡ true =
    sym (λ i. is_found ps counted.also_open counted.known.now (c.as_slice-left.ensures.value i) (c.as_slice-right.ensures.value i) j) ∙ sym c.has_sets.ensures ∙ c.if-has_sets.true in
    sym (found_listed ps counted.also_open counted.known.now ks ls j given)

pub loop-place-preserved : goal.loop-place-preserved
loop-place-preserved c =
    let counted = c.args.counted.now in
    let ps : List PairParts = counted.action_pass.now.pairs in
    let ks : List ℕ = c.args.sides.now.left.sure.items in
    let ls : List ℕ = c.args.sides.now.right.sure.items in
    let places : List ℕ = c.shorter-places.result.now in
    let i = c.loop-place.place-index in
    let j : ℕ = get_or places i 0 in
    let given : is_found ps counted.also_open counted.known.now ks ls j ≡ false =
    sym (λ i. is_found ps counted.also_open counted.known.now (c.as_slice-left.ensures.value i) (c.as_slice-right.ensures.value i) j) ∙ sym c.has_sets.ensures ∙ c.if-has_sets.false in
    other_more ps counted.also_open counted.known.now ks ls places i c.loop-place-test.true (other_unfound ps counted.also_open counted.known.now ks ls j given) c.loop-place.invariant

pub returns : goal.returns
returns c =
    let counted = c.args.counted.now in
    let x = counted.action_pass.now.index in
    let ps : List PairParts = counted.action_pass.now.pairs in
    let ks : List ℕ = c.args.sides.now.left.sure.items in
    let ls : List ℕ = c.args.sides.now.right.sure.items in
    let places : List ℕ = c.shorter-places.result.now in
    let lefts : c.places-lefts.result.now ≡ places_by x ks =
    c.places-lefts.ensures ∙ ap (λ (t : ActionPassParts). places_at t.index c.copied.result) c.action_pass.view_is ∙ ap (places_at x) (c.copied.ensures ∙ c.last.ensures.value ∙ ap (λ (l : List ℕ). slice_get l (length l - 1)) c.as_slice-left.ensures.value) in
    let rights : c.places-rights.result.now ≡ places_by x ls =
    c.places-rights.ensures ∙ ap (λ (t : ActionPassParts). places_at t.index c.copied-2.result) c.action_pass.view_is ∙ ap (places_at x) (c.copied-2.ensures ∙ c.last-2.ensures.value ∙ ap (λ (l : List ℕ). slice_get l (length l - 1)) c.as_slice-right.ensures.value) in
    let within : (j : ℕ) → Has (places_by x ks) j → Has (places_by x ls) j → Has places j = λ j h k.
    ⊎_elim (λ e. subst (λ (l : List ℕ). Has l j) (sym (e ∙ lefts)) h) (λ e. subst (λ (l : List ℕ). Has l j) (sym (e ∙ rights)) k) c.shorter-places.ensures in
    sym (none_listed ps counted.also_open counted.known.now ks ls x places c.requires within
    (λ j h. c.loop-place.invariant j (subst (λ (l : List ℕ). Has l j) (sym (take_all c.loop-place.place-index places c.loop-place-test.false)) h)))
