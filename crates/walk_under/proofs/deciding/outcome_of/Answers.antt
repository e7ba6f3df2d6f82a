use Rattle.std.proofs.Common.{◌∙◌}
use Rattle.kat_model.specs.Degrees.{long_hyps, with_hyps}
use Rattle.goal_forms.proofs.LongProblems.{long_is_problem}
use Rattle.term_nodes.proofs.Growing.{Grows-itself, Grows-trans}
use Rattle.walk_under.proofs.UnderDecisions.{closed_known}
use Rattle.walk_under.proofs.deciding.outcome_of.Goals as goal

pub returns-in_err-sides-clause-kept : goal.returns-in_err-sides-clause-kept
returns-in_err-sides-clause-kept c = c.in_err-sides.ensures.kept

pub returns-in_err-walk-clause-kept : goal.returns-in_err-walk-clause-kept
returns-in_err-walk-clause-kept c = c.in_ok-sides.ensures.kept

pub string_of_walks-requires-clause-within : goal.string_of_walks-requires-clause-within
string_of_walks-requires-clause-within c = c.tests-tests.ensures.within

pub string_of_walks-requires-clause-sides : goal.string_of_walks-requires-clause-sides
string_of_walks-requires-clause-sides c =
    let q = c.args.problem.now in
    let store = c.side_ids.new.store in
    closed_known store store (with_hyps q (long_hyps q)) (long_is_problem q c.tests-tests.ensures.within) c.in_ok-sides.sides (Grows-itself store) c.count.ensures.store c.in_ok-sides.ensures.ids

pub string_of_walks-requires-clause-walk : goal.string_of_walks-requires-clause-walk
string_of_walks-requires-clause-walk c s = record { tests = c.in_ok-walk.ensures.tests ∙ c.tests-tests.ensures.value; right = c.in_ok-walk.ensures.right s }

pub returns-in_err-found-clause-kept : goal.returns-in_err-found-clause-kept
returns-in_err-found-clause-kept c = Grows-trans _ _ _ c.in_ok-sides.ensures.kept c.in_err-found.ensures.kept

pub returns-in-Some-clause-within : goal.returns-in-Some-clause-within
returns-in-Some-clause-within c = c.tests-tests.ensures.within

pub returns-in-Some-clause-outcome : goal.returns-in-Some-clause-outcome
returns-in-Some-clause-outcome c = rw c.in-Some.is at c.in_ok-found.ensures.answer

pub returns-in-Some-clause-kept : goal.returns-in-Some-clause-kept
returns-in-Some-clause-kept c = Grows-trans _ _ _ c.in_ok-sides.ensures.kept c.in_ok-found.ensures.kept

pub returns-in-None-clause-within : goal.returns-in-None-clause-within
returns-in-None-clause-within c = c.tests-tests.ensures.within

pub returns-in-None-clause-outcome : goal.returns-in-None-clause-outcome
returns-in-None-clause-outcome c = rw c.in-None.is at c.in_ok-found.ensures.answer

pub returns-in-None-clause-kept : goal.returns-in-None-clause-kept
returns-in-None-clause-kept c = Grows-trans _ _ _ c.in_ok-sides.ensures.kept c.in_ok-found.ensures.kept
