use Rattle.std.proofs.Common.{List, ℕ, refl, subst}
use Rattle.kat_model.specs.Members.{Has}
use Rattle.walk_under.proofs.deciding.judge_string.Goals as goal

pub judge_smoothed-requires-clause-hyps : goal.judge_smoothed-requires-clause-hyps
judge_smoothed-requires-clause-hyps c = c.requires.hyps

pub judge_smoothed-requires-clause-found : goal.judge_smoothed-requires-clause-found
judge_smoothed-requires-clause-found c = c.requires.found

pub judge_smoothed-requires-clause-broken : goal.judge_smoothed-requires-clause-broken
judge_smoothed-requires-clause-broken c = c.requires.broken

pub judge_smoothed-requires-clause-rest : goal.judge_smoothed-requires-clause-rest
judge_smoothed-requires-clause-rest c i h = c.in_ok-rest.ensures.back i (subst (λ (l : List ℕ). Has l i) c.as_slice.ensures.value h)

pub broken_by-requires : goal.broken_by-requires
broken_by-requires c = c.requires.flags

pub judge_smoothed-requires-clause-flags : goal.judge_smoothed-requires-clause-flags
judge_smoothed-requires-clause-flags c = c.requires.flags

pub judge_smoothed-requires-clause-some : goal.judge_smoothed-requires-clause-some
judge_smoothed-requires-clause-some c = c.requires.some

pub returns-in_err-rest-clause-counting : goal.returns-in_err-rest-clause-counting
returns-in_err-rest-clause-counting c i h = h

pub returns-in_err-rest-clause-flags : goal.returns-in_err-rest-clause-flags
returns-in_err-rest-clause-flags c = refl

pub returns-clause-shown : goal.returns-clause-shown
returns-clause-shown c = c.judge_smoothed.ensures.shown

pub returns-clause-fewer : goal.returns-clause-fewer
returns-clause-fewer c = c.judge_smoothed.ensures.fewer

pub returns-clause-counting : goal.returns-clause-counting
returns-clause-counting c = c.judge_smoothed.ensures.counting

pub returns-clause-flags : goal.returns-clause-flags
returns-clause-flags c = c.judge_smoothed.ensures.flags
