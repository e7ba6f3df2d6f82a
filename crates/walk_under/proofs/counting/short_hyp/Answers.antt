use Rattle.walk_under.proofs.counting.short_hyp.Goals as goal

pub returns-in_err-term-clause-kept : goal.returns-in_err-term-clause-kept
returns-in_err-term-clause-kept c = c.in_err-term.ensures.grows

pub returns-in_err-copy-clause-kept : goal.returns-in_err-copy-clause-kept
returns-in_err-copy-clause-kept c = c.in_ok-term.ensures.grows

pub returns-in_err-tests-clause-kept : goal.returns-in_err-tests-clause-kept
returns-in_err-tests-clause-kept c = c.in_ok-term.ensures.grows

pub returns-in_err-acts-clause-kept : goal.returns-in_err-acts-clause-kept
returns-in_err-acts-clause-kept c = c.in_ok-term.ensures.grows

pub returns-clause-tree : goal.returns-clause-tree
returns-clause-tree c = c.in_ok-copy.ensures

pub returns-clause-id : goal.returns-clause-id
returns-clause-id c = c.in_ok-term.ensures.is_id

pub returns-clause-term : goal.returns-clause-term
returns-clause-term c = c.in_ok-term.ensures.tree

pub returns-clause-kept : goal.returns-clause-kept
returns-clause-kept c = c.in_ok-term.ensures.grows
