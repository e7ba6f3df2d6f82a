use Rattle.std.proofs.Common.{refl, arith}
use Rattle.optimiser_steps.proofs.MadeSteps.{none_at_abort, abort_made}
use Rattle.optimiser_steps.proofs.statement_steps.abort_step.Goals as goal

pub returns-in-empty : goal.returns-in-empty
returns-in-empty c f = none_at_abort f c.args.rest.now (omega arith)

pub returns-in_ok-list-in-len1-up : goal.returns-in_ok-list-in-len1-up
returns-in_ok-list-in-len1-up c f = abort_made f c.args.rest.now _ (omega arith) refl c.in_ok-list-in-len1-up.ensures
