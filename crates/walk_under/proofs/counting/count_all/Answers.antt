use Rattle.std.proofs.Common.{◌<◌, ◌≢◌, length, length-set, get_or-set_other, get_or-set_same, below_more, arith}
use Rattle.walk_under.proofs.Uncounted.{none_uncounted, all_still_count}
use Rattle.walk_under.proofs.counting.count_all.Goals as goal

pub loop-place-preserved : goal.loop-place-preserved
loop-place-preserved c = record {
  count = rw length-set c.loop-place.invariant.count;
  counted = below_more _ _
      (λ i l. let other : i ≢ c.loop-place.place = omega arith in rw get_or-set_other (c.loop-place.invariant.counted i l))
      (let within : c.loop-place.place < length c.loop-place.counts = omega arith in rw get_or-set_same);
}

pub returns-clause-fewer : goal.returns-clause-fewer
returns-clause-fewer c =
    let none = none_uncounted c.loop-place.counts (λ i l. c.loop-place.invariant.counted i (omega (arith, l, c.loop-place.invariant.count, c.loop-place-test.false))) in
    omega (arith, none, c.requires)

pub returns-clause-all : goal.returns-clause-all
returns-clause-all c i l = c.loop-place.invariant.counted i (omega (arith, l, c.loop-place.invariant.count, c.loop-place-test.false))

pub returns-clause-kept : goal.returns-clause-kept
returns-clause-kept c =
    all_still_count c.args.counts.now c.loop-place.counts
    (λ i l. c.loop-place.invariant.counted i (omega (arith, l, c.loop-place.invariant.count, c.loop-place-test.false)))
