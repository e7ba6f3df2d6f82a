use Rattle.std.proofs.Common.{◌<◌, false, true, length, ◌∙◌, arith}
use Rattle.std.proofs.lemmas.Bool.{both_ways}
use Rattle.std.proofs.lemmas.List.{get_or_default}
use Rattle.walk_under.proofs.CountedHyps.{broken_more, broken_past, broken_all}
use Rattle.walk_under.proofs.counting.broken_by.Goals as goal
use Rattle.walk_under.proofs.counting.broken_by.Goals.{then-is_broken+in_ok-push, else-is_broken}

pub loop-place-preserved : goal.loop-place-preserved
loop-place-preserved c =
    let hyps = c.args.hyps.now in
    let counts = c.args.counts.now in
    let k = c.loop-place.place in
    let x = c.index-hyps-place.result in
    let within : k < length counts = omega arith in
    elim c.if-is_broken.branch [
      | then-is_broken+in_ok-push w ↦
          let is = c.is_broken.ensures.0 w.if-is_broken.true in
          rw w.broken-is (broken_more hyps k x c.loop-place-test.true c.index-hyps-place.is counts c.args.string.now c.loop-place.broken.items c.loop-place.invariant w.push.new.self.items w.in_ok-push.ensures.items (omega arith) (get_or_default counts k true false within ∙ is.0) is.1)
      | else-is_broken w ↦
          rw w.broken-is (broken_past hyps k x c.loop-place-test.true c.index-hyps-place.is counts c.args.string.now c.loop-place.broken.items c.loop-place.invariant
          (λ f b. both_ways c.is_broken.result w.if-is_broken.false (c.is_broken.ensures.1 (f, b))))
    ]

pub returns : goal.returns
returns c = broken_all c.args.hyps.now c.args.counts.now c.args.string.now c.loop-place.broken.items c.loop-place.place c.loop-place.invariant (omega arith)
