use Rattle.std.proofs.Common.{◌≡◌, ℕ, List, Some, None, true, slice_get, get_or, sym, ap, ◌∙◌, subst, Bor}
use Rattle.std.proofs.lemmas.List.{take_all}
use Rattle.kat_model.proofs.Places.{has_at}
use Rattle.certificate.specs.PairParts.{PairParts}
use Rattle.cert_checker.specs.Indices.{places_at}
use Rattle.cert_checker.specs.Working.Matching.{does_count}
use Rattle.cert_checker.specs.Questions.{ActionPassParts}
use Rattle.cert_checker.specs.Working.Rounds.{IsBrought, AreTendedAt, counting_in}
use Rattle.cert_checker.proofs.FoundPairs.{item_read}
use Rattle.cert_checker.proofs.Saturating.{brought_as, goes_then, pair_goes, pair_tended, tended_more, tended_absent, tended_uncounted, tended_pair}
use Rattle.cert_checker.proofs.saturation.add_pairs.Goals as goal
use Rattle.cert_checker.proofs.saturation.add_pairs.Goals.{in-Some+then-counts+in_ok-bring+in_ok-bring-2, in-Some+else-counts, in_default}

pub loop-place-preserved : goal.loop-place-preserved
loop-place-preserved c =
    let counted = c.args.counted.now in
    let ps : List PairParts = counted.action_pass.now.pairs in
    let also = counted.also_open in
    let known = counted.known.now in
    let same : c.action_pass.inside.pairs.now ≡ ps = ap (λ (t : ActionPassParts). t.pairs) c.action_pass.view_is in
    let places : List ℕ = c.places-place-items.result.now in
    let i = c.loop-place.place-index in
    let j : ℕ = get_or places i 0 in
    let old : List ℕ = c.args.reached.now.keys in
    let a : List ℕ = c.loop-place.reached.keys in
    let now = c.loop-place.invariant in
    elim c.match-get.branch [
      | in-Some+then-counts+in_ok-bring+in_ok-bring-2 w ↦
          let b : List ℕ = w.bring.new.reached.keys in
          let d : List ℕ = w.bring-then-counts.new.reached.keys in
          let p : PairParts = w.in-Some.pair.now in
          let at : slice_get ps j ≡ Some p = ap (λ (l : List PairParts). slice_get l j) (sym same) ∙ item_read (λ (q : Bor PairParts). q.now) c.action_pass.inside.pairs.now j (Some w.in-Some.pair) w.in-Some.ensures.lookup in
          let on : does_count also known p ≡ true = sym w.counts.ensures ∙ w.if-counts.true in
          let first : IsBrought p.left p.right a b = brought_as _ _ p.left p.right a b (w.as_slice.ensures ∙ ap (λ (z : PairParts). z.left) w.pair.view_is) (w.as_slice-then-counts.ensures ∙ ap (λ (z : PairParts). z.right) w.pair.view_is) w.in_ok-bring.ensures in
          let then : IsBrought p.right p.left b d = brought_as _ _ p.right p.left b d (w.as_slice-then-counts-2.ensures ∙ ap (λ (z : PairParts). z.right) w.pair.view_is) (w.as_slice-then-counts-3.ensures ∙ ap (λ (z : PairParts). z.left) w.pair.view_is) w.in_ok-bring-2.ensures in
          let goes = pair_goes ps also known p (has_at ps j p at) on a b d first then in
          rw w.reached-is (record {
            goes = goes_then (counting_in counted) old a d now.goes goes;
            tended = tended_more ps also known places old a d i c.loop-place-test.true now.goes.kept goes.kept (tended_pair ps also known a d j p at (pair_tended ps also known p a b d first then)) now.tended;
          })
      | in-Some+else-counts w ↦
          let p : PairParts = w.in-Some.pair.now in
          let at : slice_get ps j ≡ Some p = ap (λ (l : List PairParts). slice_get l j) (sym same) ∙ item_read (λ (q : Bor PairParts). q.now) c.action_pass.inside.pairs.now j (Some w.in-Some.pair) w.in-Some.ensures.lookup in
          rw w.reached-is (record {
            goes = now.goes;
            tended = tended_more ps also known places old a a i c.loop-place-test.true now.goes.kept (λ n k e. e) (tended_uncounted ps also known a a j p at (sym w.counts.ensures ∙ w.if-counts.false)) now.tended;
          })
      | in_default w ↦
          let none : slice_get ps j ≡ None = ap (λ (l : List PairParts). slice_get l j) (sym same) ∙ item_read (λ (q : Bor PairParts). q.now) c.action_pass.inside.pairs.now j None w.in_default.ensures.lookup in
          rw w.reached-is (record {
            goes = now.goes;
            tended = tended_more ps also known places old a a i c.loop-place-test.true now.goes.kept (λ n k e. e) (tended_absent ps also known a a j none) now.tended;
          })
    ]

pub returns-clause-tended : goal.returns-clause-tended
returns-clause-tended c =
    let counted = c.args.counted.now in
    let places : List ℕ = c.places-place-items.result.now in
    let all : places ≡ places_at counted.action_pass.now.index c.args.last = c.places-place-items.ensures ∙ ap (λ (t : ActionPassParts). places_at t.index c.args.last) c.action_pass.view_is in
    subst (AreTendedAt counted.action_pass.now.pairs counted.also_open counted.known.now c.args.reached.now.keys c.loop-place.reached.keys) (take_all c.loop-place.place-index places c.loop-place-test.false ∙ all) c.loop-place.invariant.tended
