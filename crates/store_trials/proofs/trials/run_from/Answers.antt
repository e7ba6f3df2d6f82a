use Rattle.store_trials.proofs.TrialFacts.{run_ended}
use Rattle.store_trials.proofs.trials.run_from.Goals as goal

pub returns-clause-end : goal.returns-clause-end
returns-clause-end c =
    run_ended c.args.width c.args.turns c.args.prog.now c.args.store.now c.run-outcome.result c.run-outcome.new.store c.in_ok-last.last c.in_ok-last.ensures
    c.run-outcome.ensures.done c.run-outcome.ensures.stuck c.run-outcome.ensures.more
