use Rattle.walk_regions.proofs.querying.accepted_by.Goals as goal

pub step-requires-clause-right : goal.step-requires-clause-right
step-requires-clause-right c = c.requires.right

pub returns-in_err-steps-clause-right : goal.returns-in_err-steps-clause-right
returns-in_err-steps-clause-right c = c.in_err-steps.ensures.right

pub returns-in_err-steps-clause-kept : goal.returns-in_err-steps-clause-kept
returns-in_err-steps-clause-kept c = c.in_err-steps.ensures.kept

pub returns-clause-right : goal.returns-clause-right
returns-clause-right c = c.in_ok-steps.ensures.right

pub returns-clause-kept : goal.returns-clause-kept
returns-clause-kept c = c.in_ok-steps.ensures.kept

pub returns-clause-accepted : goal.returns-clause-accepted
returns-clause-accepted c = c.in_ok-steps.ensures.steps.accepts
