use Rattle.std.proofs.Common.{refl}
use Rattle.std.proofs.lemmas.Bool.{false≢true}
use Rattle.string_tables.proofs.Counterexamples.{refuted_not_same}
use Rattle.walk_under.proofs.EndedSame.{ended_alike_all}
use Rattle.walk_under.proofs.deciding.is_same_under.Goals as goal

pub returns-in-Alike-clause-same : goal.returns-in-Alike-clause-same
returns-in-Alike-clause-same c =
    let ended = rw c.in-Alike.is at c.in_ok-outcome.ensures.outcome in
    ((λ e. ended_alike_all c.args.problem.now c.outcome_of.new.store _ ended), (λ s. refl))

pub returns-clause-same : goal.returns-clause-same
returns-clause-same c =
    let shortest = rw c.in-Refuted.is at c.in_ok-outcome.ensures.outcome in
    ((λ e. absurd (false≢true e)), (λ s. absurd (refuted_not_same c.args.problem.now _ shortest.refutes s)))
