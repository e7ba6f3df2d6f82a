use Rattle.partial_derivs.proofs.derivatives.step.Goals as goal

pub step-requires-clause-right : goal.step-requires-clause-right
step-requires-clause-right c = c.new-derivatives.ensures c.args.store.now c.args.diagrams.now
