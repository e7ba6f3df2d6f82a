use Rattle.std.proofs.Common.{Err, refl, ap}
use Rattle.std.proofs.lemmas.Bool.{false≢true}
use Rattle.walk_up_to.proofs.PassedOn.{passed_on, passed_cost, not_stopped}
use Rattle.walk_up_to.proofs.PairLimits.{pairs_past}
use Rattle.walk_up_to.proofs.Decisions.{ended_same, ended_apart}
use Rattle.walk_up_to.proofs.deciding.ends_same.Goals as goal

pub returns-in-Some-clause-same : goal.returns-in-Some-clause-same
returns-in-Some-clause-same c =
    let found = rw c.in-Some.is at c.in_ok-run.ensures.answer in
    ((λ e. absurd (false≢true e)), (λ s. absurd (ended_apart c.args.problem.now c.run.new.store c.run.new.self _ _ found.0 found.1 s)))

pub returns-clause-same : goal.returns-clause-same
returns-clause-same c =
    let done = rw c.in_default.is at c.in_ok-run.ensures.answer in
    ((λ e. ended_same c.args.problem.now c.run.new.store c.run.new.self done), (λ s. refl))

pub returns-in_err-run-clause-past : goal.returns-in_err-run-clause-past
returns-in_err-run-clause-past c = λ is. pairs_past c.args.problem.now c.args.walk.now.listed.limit (c.in_err-run.ensures.full (ap Err (passed_on c.from_residual.result c.in_err-run.field-0.0 c.from_residual.ensures.1 is)))

pub returns-in_err-run-clause-limited : goal.returns-in_err-run-clause-limited
returns-in_err-run-clause-limited c = λ is. c.in_err-run.ensures.limited (ap Err (passed_cost c.from_residual.result c.in_err-run.field-0.0 c.from_residual.ensures.1 is))

pub returns-in_err-run-clause-kept : goal.returns-in_err-run-clause-kept
returns-in_err-run-clause-kept c = c.in_err-run.ensures.kept

pub returns-in-Some-clause-past : goal.returns-in-Some-clause-past
returns-in-Some-clause-past c is = absurd (not_stopped _ _ is)

pub returns-in-Some-clause-limited : goal.returns-in-Some-clause-limited
returns-in-Some-clause-limited c is = absurd (not_stopped _ _ is)

pub returns-in-Some-clause-kept : goal.returns-in-Some-clause-kept
returns-in-Some-clause-kept c = c.in_ok-run.ensures.kept

pub returns-clause-past : goal.returns-clause-past
returns-clause-past c is = absurd (not_stopped _ _ is)

pub returns-clause-limited : goal.returns-clause-limited
returns-clause-limited c is = absurd (not_stopped _ _ is)

pub returns-clause-kept : goal.returns-clause-kept
returns-clause-kept c = c.in_ok-run.ensures.kept
