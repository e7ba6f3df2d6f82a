use Rattle.std.proofs.Common.{◌<◌, true, length, get_or, subst, arith, below_more, ◌∙◌}
use Rattle.std.proofs.lemmas.List.{length-set}
use Rattle.std.proofs.lemmas.Option.{slice_get_within, get_or_from_slice_get}
use Rattle.kat_model.proofs.Places.{place_of_member, slice_get-set_same, slice_get-set_kept}
use Rattle.cert_checker.specs.Marks.{IsMarked}
use Rattle.cert_checker.proofs.StepLists.{below_at}
use Rattle.cert_checker.proofs.pass.mark_all.Goals as goal

pub bounds-marks-number : goal.bounds-marks-number
bounds-marks-number c =
    let low : get_or c.args.set.now c.loop-number.number-index 0 < length c.args.marks.now = below_at (length c.args.marks.now) c.args.set.now c.loop-number.number-index 0 c.requires (omega arith) in
    omega (arith, low, c.loop-number.invariant.count)

pub loop-number-preserved : goal.loop-number-preserved
loop-number-preserved c =
    let now = c.loop-number.invariant in
    let marks = c.loop-number.marks in
    let k = get_or c.args.set.now c.loop-number.number-index 0 in
    let low : k < length c.args.marks.now = below_at (length c.args.marks.now) c.args.set.now c.loop-number.number-index 0 c.requires (omega arith) in
    let here : k < length marks = omega (arith, low, now.count) in
    record {
      count = length-set marks k true ∙ now.count;
      kept = λ j m. slice_get-set_kept marks k j true (now.kept j m);
      marked = below_more _ _ (λ j l. slice_get-set_kept marks k (get_or c.args.set.now j 0) true (now.marked j l)) (slice_get-set_same marks k true here);
    }

pub returns-clause-marked : goal.returns-clause-marked
returns-clause-marked c = λ k h.
    let at = place_of_member c.args.set.now k h in
    let low : at.0 < length c.args.set.now = slice_get_within c.args.set.now at.0 k at.1 in
    subst (IsMarked c.loop-number.marks) (get_or_from_slice_get c.args.set.now at.0 k 0 at.1) (c.loop-number.invariant.marked at.0 (omega arith))
