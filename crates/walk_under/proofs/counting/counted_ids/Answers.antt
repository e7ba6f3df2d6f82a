use Rattle.std.proofs.Common.{arith}
use Rattle.walk_under.proofs.CountedHyps.{counted_more, counted_past, counted_all}
use Rattle.walk_under.proofs.counting.counted_ids.Goals as goal
use Rattle.walk_under.proofs.counting.counted_ids.Goals.{then-counted+in_ok-push, else-counted}

pub loop-place-preserved : goal.loop-place-preserved
loop-place-preserved c =
    let hyps = c.args.hyps.now in
    let counts = c.args.counts.now in
    let k = c.loop-place.place in
    let x = c.index-hyps-place.result in
    elim c.if-counted.branch [
      | then-counted+in_ok-push w ↦ rw w.ids-is (counted_more hyps k x c.loop-place-test.true c.index-hyps-place.is counts c.loop-place.ids.items c.loop-place.invariant w.push.new.self.items w.in_ok-push.ensures.items)
      | else-counted w ↦ rw w.ids-is (counted_past hyps k x c.loop-place-test.true c.index-hyps-place.is counts c.loop-place.ids.items c.loop-place.invariant w.if-counted.false)
    ]

pub returns : goal.returns
returns c = counted_all c.args.hyps.now c.args.counts.now c.loop-place.ids.items c.loop-place.place c.loop-place.invariant (omega arith)
