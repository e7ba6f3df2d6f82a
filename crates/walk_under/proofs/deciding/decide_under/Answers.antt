use Rattle.term_nodes.proofs.Growing.{Grows-trans}
use Rattle.walk_under.proofs.UnderDecisions.{refuted}
use Rattle.walk_under.proofs.deciding.decide_under.Goals as goal

pub evidence_of-requires-clause-within : goal.evidence_of-requires-clause-within
evidence_of-requires-clause-within c = c.in_ok-outcome.ensures.within

pub evidence_of-requires-clause-ended : goal.evidence_of-requires-clause-ended
evidence_of-requires-clause-ended c = rw c.in-Alike.is at c.in_ok-outcome.ensures.outcome

pub returns-in-Refuted-clause-decision : goal.returns-in-Refuted-clause-decision
returns-in-Refuted-clause-decision c = refuted c.args.problem.now _ (rw c.in-Refuted.is at c.in_ok-outcome.ensures.outcome)

pub returns-in-Alike-clause-kept : goal.returns-in-Alike-clause-kept
returns-in-Alike-clause-kept c = Grows-trans _ _ _ c.in_ok-outcome.ensures.kept c.evidence_of.ensures.kept
