use Rattle.std.proofs.Common.{refl}
use Rattle.walk_under.proofs.deciding.judge.Goals as goal

pub judge_string-requires-clause-hyps : goal.judge_string-requires-clause-hyps
judge_string-requires-clause-hyps c = c.requires.hyps

pub judge_string-requires-clause-found : goal.judge_string-requires-clause-found
judge_string-requires-clause-found c = c.requires.found

pub judge_string-requires-clause-broken : goal.judge_string-requires-clause-broken
judge_string-requires-clause-broken c = c.requires.broken

pub returns-then-shown-clause-answer : goal.returns-then-shown-clause-answer
returns-then-shown-clause-answer c = c.in_ok-shown.ensures.shown c.if-shown.true

pub returns-clause-answer : goal.returns-clause-answer
returns-clause-answer c = c.in_ok-shown.ensures.fewer c.if-shown.false

pub smoothed-requires-clause-regions : goal.smoothed-requires-clause-regions
smoothed-requires-clause-regions c = c.requires.regions

pub smoothed-requires-clause-last : goal.smoothed-requires-clause-last
smoothed-requires-clause-last c = c.requires.last

pub judge_string-requires-clause-flags : goal.judge_string-requires-clause-flags
judge_string-requires-clause-flags c = c.requires.flags

pub judge_string-requires-clause-some : goal.judge_string-requires-clause-some
judge_string-requires-clause-some c = c.requires.some

pub returns-in_err-string-clause-counting : goal.returns-in_err-string-clause-counting
returns-in_err-string-clause-counting c i h = h

pub returns-in_err-string-clause-flags : goal.returns-in_err-string-clause-flags
returns-in_err-string-clause-flags c = refl

pub returns-in_err-shown-clause-counting : goal.returns-in_err-shown-clause-counting
returns-in_err-shown-clause-counting c = c.in_err-shown.ensures.counting

pub returns-in_err-shown-clause-flags : goal.returns-in_err-shown-clause-flags
returns-in_err-shown-clause-flags c = c.in_err-shown.ensures.flags

pub returns-then-shown-clause-counting : goal.returns-then-shown-clause-counting
returns-then-shown-clause-counting c = c.in_ok-shown.ensures.counting

pub returns-then-shown-clause-flags : goal.returns-then-shown-clause-flags
returns-then-shown-clause-flags c = c.in_ok-shown.ensures.flags

pub returns-clause-counting : goal.returns-clause-counting
returns-clause-counting c = c.in_ok-shown.ensures.counting

pub returns-clause-flags : goal.returns-clause-flags
returns-clause-flags c = c.in_ok-shown.ensures.flags
