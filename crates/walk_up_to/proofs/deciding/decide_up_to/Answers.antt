use Rattle.std.proofs.Common.{subst}
use Rattle.std.specs.Prelude.{IsSome}
use Rattle.std.proofs.lemmas.Result.{IfOk-weaker}
use Rattle.term_nodes.proofs.Growing.{Grows-trans}
use Rattle.walk_up_to.specs.Decisions.{IsDecisionUpTo, HasPairsPast}
use Rattle.walk_up_to.proofs.PassedOn.{no_room_full, no_room_cost}
use Rattle.walk_up_to.proofs.Decisions.{sides_later, on_ok}
use Rattle.walk_up_to.proofs.deciding.decide_up_to.Goals as goal

pub evidence_of-requires-clause-within : goal.evidence_of-requires-clause-within
evidence_of-requires-clause-within c = c.in_ok-walk.ensures.under_way.0

pub evidence_of-requires-clause-under_way : goal.evidence_of-requires-clause-under_way
evidence_of-requires-clause-under_way c = c.in_ok-walk.ensures.under_way.1

pub returns-clause-decision : goal.returns-clause-decision
returns-clause-decision c = IfOk-weaker c.evidence_of.result _ _ (λ e d. subst (λ l. IsDecisionUpTo c.args.problem.now l e) c.in_ok-walk.ensures.limit d) c.evidence_of.ensures.decision

pub returns-clause-sides : goal.returns-clause-sides
returns-clause-sides c = on_ok c.evidence_of.result (sides_later c.args.problem.now c.walk_of.new.store c.evidence_of.new.store c.evidence_of.ensures.kept c.in_ok-walk.ensures.sides)

pub returns-clause-past : goal.returns-clause-past
returns-clause-past c = λ is. subst (HasPairsPast c.args.problem.now) c.in_ok-walk.ensures.limit (c.evidence_of.ensures.past is)

pub returns-clause-past_sides : goal.returns-clause-past_sides
returns-clause-past_sides c = λ is. sides_later c.args.problem.now c.walk_of.new.store c.evidence_of.new.store c.evidence_of.ensures.kept c.in_ok-walk.ensures.sides

pub returns-clause-kept : goal.returns-clause-kept
returns-clause-kept c = Grows-trans c.args.store.now c.walk_of.new.store c.evidence_of.new.store c.in_ok-walk.ensures.kept c.evidence_of.ensures.kept

pub returns-clause-limited : goal.returns-clause-limited
returns-clause-limited c = λ is. subst IsSome c.in_ok-walk.ensures.limit (c.evidence_of.ensures.limited is)

pub returns-clause-limited_sides : goal.returns-clause-limited_sides
returns-clause-limited_sides c = λ is. sides_later c.args.problem.now c.walk_of.new.store c.evidence_of.new.store c.evidence_of.ensures.kept c.in_ok-walk.ensures.sides

pub returns-in_err-walk-clause-past : goal.returns-in_err-walk-clause-past
returns-in_err-walk-clause-past c is = absurd (no_room_full c.from_residual.result c.from_residual.ensures.1 is)

pub returns-in_err-walk-clause-limited : goal.returns-in_err-walk-clause-limited
returns-in_err-walk-clause-limited c is = absurd (no_room_cost c.from_residual.result c.from_residual.ensures.1 is)

pub returns-in_err-walk-clause-past_sides : goal.returns-in_err-walk-clause-past_sides
returns-in_err-walk-clause-past_sides c is = absurd (no_room_full c.from_residual.result c.from_residual.ensures.1 is)

pub returns-in_err-walk-clause-limited_sides : goal.returns-in_err-walk-clause-limited_sides
returns-in_err-walk-clause-limited_sides c is = absurd (no_room_cost c.from_residual.result c.from_residual.ensures.1 is)

pub returns-in_err-walk-clause-kept : goal.returns-in_err-walk-clause-kept
returns-in_err-walk-clause-kept c = c.in_err-walk.ensures.kept

pub returns-in_err-walk-clause-store : goal.returns-in_err-walk-clause-store
returns-in_err-walk-clause-store c = c.in_err-walk.ensures.store

pub returns-clause-nodes : goal.returns-clause-nodes
returns-clause-nodes c = c.evidence_of.ensures.nodes

pub returns-clause-store : goal.returns-clause-store
returns-clause-store c = c.evidence_of.ensures.store
