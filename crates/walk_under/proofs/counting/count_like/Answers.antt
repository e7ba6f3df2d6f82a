use Rattle.std.proofs.Common.{◌∙◌, true, false, refl, get_or-set_same, arith}
use Rattle.walk_under.proofs.Uncounted.{set_fewer, set_keeps}
use Rattle.walk_under.proofs.counting.count_like.Goals as goal

pub loop-other-init : goal.loop-other-init
loop-other-init c = record { count = refl; fewer = omega arith; kept = λ i e. e }

pub loop-other-preserved : goal.loop-other-preserved
loop-other-preserved c =
    let before = c.loop-other.invariant in
    record { count = c.count_if.ensures.flags ∙ before.count; fewer = omega (arith, c.count_if.ensures.fewer, before.fewer); kept = λ i e. c.count_if.ensures.kept i (before.kept i e) }

pub returns-clause-fewer : goal.returns-clause-fewer
returns-clause-fewer c =
    let one = set_fewer c.args.counts.now c.args.place c.requires.uncounted in
    omega (arith, one, c.loop-other.invariant.fewer)

pub returns-clause-kept : goal.returns-clause-kept
returns-clause-kept c i e = c.loop-other.invariant.kept i (set_keeps c.args.counts.now c.args.place i e)

pub returns-clause-place : goal.returns-clause-place
returns-clause-place c = c.loop-other.invariant.kept c.args.place (get_or-set_same c.args.counts.now c.args.place true false c.requires.place)
