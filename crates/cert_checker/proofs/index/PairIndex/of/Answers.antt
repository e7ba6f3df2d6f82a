use Rattle.std.proofs.Common.{◌≡◌, List, ℕ, slice_get, Some, length, refl, ap, ◌∙◌, subst, arith}
use Rattle.std.proofs.lemmas.Option.{slice_get_read}
use Rattle.kat_model.specs.Members.{Has}
use Rattle.certificate.specs.PairParts.{PairParts}
use Rattle.cert_checker.specs.Indices.{places_by}
use Rattle.cert_checker.proofs.Indexed.{indexed_more}
use Rattle.cert_checker.proofs.index.PairIndex.of.Goals as goal

pub loop-place-preserved : goal.loop-place-preserved
loop-place-preserved c =
    let ps = c.args.pairs.now in
    let p : PairParts = c.index-pairs-place.result in
    let i = c.loop-place.place in
    let at : slice_get ps i ≡ Some p = slice_get_read ps (length ps) i p refl (omega arith) c.index-pairs-place.is in
    let left : c.as_slice.result.now ≡ p.left = c.as_slice.ensures ∙ ap (λ (z : PairParts). z.left) c.pair.view_is in
    let right : c.as_slice-in-loop-place.result.now ≡ p.right = c.as_slice-in-loop-place.ensures ∙ ap (λ (z : PairParts). z.right) c.pair.view_is in
    indexed_more c.loop-place.index c.add.new.self c.add-in-loop-place.new.self ps i p at c.loop-place.invariant
    (subst (λ (ks : List ℕ). Has (places_by c.add.new.self ks) i) left c.in_ok-add.ensures.added) c.in_ok-add.ensures.kept
    (subst (λ (ks : List ℕ). Has (places_by c.add-in-loop-place.new.self ks) i) right c.in_ok-add-2.ensures.added) c.in_ok-add-2.ensures.kept
