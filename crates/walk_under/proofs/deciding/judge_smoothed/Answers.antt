use Rattle.std.proofs.Common.{refl, sym}
use Rattle.std.proofs.lemmas.Bool.{false≢true}
use Rattle.walk_under.proofs.Uncounted.{some_items}
use Rattle.walk_under.proofs.CountedWalks.{found_as_long}
use Rattle.walk_under.proofs.deciding.judge_smoothed.Goals as goal

pub count_next-requires-clause-some : goal.count_next-requires-clause-some
count_next-requires-clause-some c = some_items c.args.made.now.broken.now c.has_some-breaks.result c.has_some-breaks.ensures c.if-breaks.true

pub returns-then-breaks-clause-shown : goal.returns-then-breaks-clause-shown
returns-then-breaks-clause-shown c t = absurd (false≢true t)

pub returns-then-breaks-clause-fewer : goal.returns-then-breaks-clause-fewer
returns-then-breaks-clause-fewer c f = c.in_ok-count_next.ensures.fewer

pub returns-then-shown-clause-shown : goal.returns-then-shown-clause-shown
returns-then-shown-clause-shown c t =
    found_as_long c.args.problem.now c.requires.hyps.0 c.args.hyps.now c.requires.hyps.1 c.args.counts.now c.args.found.now.string.now c.args.made.now.string.now c.requires.found
    (c.in_ok-shown.ensures.refutes c.if-shown.true) (c.in_ok-shown.ensures.count c.if-shown.true)

pub returns-then-shown-clause-fewer : goal.returns-then-shown-clause-fewer
returns-then-shown-clause-fewer c f = absurd (false≢true (sym f))

pub returns-clause-shown : goal.returns-clause-shown
returns-clause-shown c t = absurd (false≢true t)

pub returns-clause-fewer : goal.returns-clause-fewer
returns-clause-fewer c f = c.in_ok-count_next-2.ensures.fewer

pub count_next-requires-clause-flags : goal.count_next-requires-clause-flags
count_next-requires-clause-flags c = c.requires.flags

pub count_next-requires-clause-broken : goal.count_next-requires-clause-broken
count_next-requires-clause-broken c = c.requires.rest

pub count_next-requires-2-clause-flags : goal.count_next-requires-2-clause-flags
count_next-requires-2-clause-flags c = c.requires.flags

pub count_next-requires-2-clause-some : goal.count_next-requires-2-clause-some
count_next-requires-2-clause-some c = c.requires.some

pub count_next-requires-2-clause-broken : goal.count_next-requires-2-clause-broken
count_next-requires-2-clause-broken c = c.requires.broken

pub returns-in_err-count_next-clause-counting : goal.returns-in_err-count_next-clause-counting
returns-in_err-count_next-clause-counting c = c.in_err-count_next.ensures.kept

pub returns-in_err-count_next-clause-flags : goal.returns-in_err-count_next-clause-flags
returns-in_err-count_next-clause-flags c = c.in_err-count_next.ensures.flags

pub returns-then-breaks-clause-counting : goal.returns-then-breaks-clause-counting
returns-then-breaks-clause-counting c = c.in_ok-count_next.ensures.kept

pub returns-then-breaks-clause-flags : goal.returns-then-breaks-clause-flags
returns-then-breaks-clause-flags c = c.in_ok-count_next.ensures.flags

pub returns-in_err-shown-clause-counting : goal.returns-in_err-shown-clause-counting
returns-in_err-shown-clause-counting c i h = h

pub returns-in_err-shown-clause-flags : goal.returns-in_err-shown-clause-flags
returns-in_err-shown-clause-flags c = refl

pub returns-then-shown-clause-counting : goal.returns-then-shown-clause-counting
returns-then-shown-clause-counting c i h = h

pub returns-then-shown-clause-flags : goal.returns-then-shown-clause-flags
returns-then-shown-clause-flags c = refl

pub returns-in_err-count_next-2-clause-counting : goal.returns-in_err-count_next-2-clause-counting
returns-in_err-count_next-2-clause-counting c = c.in_err-count_next-2.ensures.kept

pub returns-in_err-count_next-2-clause-flags : goal.returns-in_err-count_next-2-clause-flags
returns-in_err-count_next-2-clause-flags c = c.in_err-count_next-2.ensures.flags

pub returns-clause-counting : goal.returns-clause-counting
returns-clause-counting c = c.in_ok-count_next-2.ensures.kept

pub returns-clause-flags : goal.returns-clause-flags
returns-clause-flags c = c.in_ok-count_next-2.ensures.flags
