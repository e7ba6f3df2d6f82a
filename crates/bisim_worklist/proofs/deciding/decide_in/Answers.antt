use Rattle.std.proofs.Common.{refl, subst}
use Rattle.std.proofs.lemmas.Result.{IfOk-weaker}
use Rattle.term_nodes.proofs.Growing.{Grows-trans}
use Rattle.walk_up_to.specs.Decisions.{IsDecisionUpTo}
use Rattle.walk_up_to.proofs.Decisions.{sides_later}
use Rattle.bisim_worklist.proofs.PairLimits.{short_where_some, short_where_past}
use Rattle.bisim_worklist.proofs.Decisions.{up_to_decides, under_decides, has_ids}
use Rattle.bisim_worklist.proofs.deciding.decide_in.Goals as goal

pub returns-in-Ok-clause-decision : goal.returns-in-Ok-clause-decision
returns-in-Ok-clause-decision c =
    up_to_decides c.args.problem.now c.in-Ok.evidence (subst (λ l. IsDecisionUpTo c.args.problem.now l c.in-Ok.evidence) c.limit_of-limit.ensures.value c.in-Ok.ensures.decision)

pub returns-in-Ok-clause-ids : goal.returns-in-Ok-clause-ids
returns-in-Ok-clause-ids c = has_ids c.args.problem.now c.decide_up_to.new.store c.in-Ok.ensures.sides c.in-Ok.evidence c.in-Ok.ensures.nodes

pub returns-in-Err-PairLimit-clause-decision : goal.returns-in-Err-PairLimit-clause-decision
returns-in-Err-PairLimit-clause-decision c =
    let past = rw c.in-Err-PairLimit.field-0-is at c.in-Err-PairLimit.ensures.past in
    let q = c.args.problem.now in
    let limit = c.limit_of-limit.result in
    IfOk-weaker c.decide_under.result _ _ (under_decides q (short_where_past q limit c.limit_of-limit.ensures.value (past refl))) c.decide_under.ensures.decision

pub returns-in-Err-PairLimit-clause-ids : goal.returns-in-Err-PairLimit-clause-ids
returns-in-Err-PairLimit-clause-ids c =
    let sides = rw c.in-Err-PairLimit.field-0-is at c.in-Err-PairLimit.ensures.past_sides in
    let q = c.args.problem.now in
    IfOk-weaker c.decide_under.result _ _
    (has_ids q c.decide_under.new.store (sides_later q c.decide_up_to.new.store c.decide_under.new.store c.decide_under.ensures.kept (sides refl)))
    c.decide_under.ensures.nodes

pub returns-in-Err-PairLimit-clause-kept : goal.returns-in-Err-PairLimit-clause-kept
returns-in-Err-PairLimit-clause-kept c =
    Grows-trans c.args.store.now c.decide_up_to.new.store c.decide_under.new.store c.decide_up_to.ensures.kept c.decide_under.ensures.kept

pub returns-in-Err-PairLimit-clause-store : goal.returns-in-Err-PairLimit-clause-store
returns-in-Err-PairLimit-clause-store c = c.decide_under.ensures.kept.sound c.decide_up_to.ensures.store

pub returns-in-Err-CostLimit-clause-decision : goal.returns-in-Err-CostLimit-clause-decision
returns-in-Err-CostLimit-clause-decision c =
    let limited = rw c.in-Err-CostLimit.field-0-is at c.in-Err-CostLimit.ensures.limited in
    let q = c.args.problem.now in
    IfOk-weaker c.decide_under-in-Err-CostLimit.result _ _ (under_decides q (short_where_some q c.limit_of-limit.result c.limit_of-limit.ensures.value (limited refl))) c.decide_under-in-Err-CostLimit.ensures.decision

pub returns-in-Err-CostLimit-clause-ids : goal.returns-in-Err-CostLimit-clause-ids
returns-in-Err-CostLimit-clause-ids c =
    let sides = rw c.in-Err-CostLimit.field-0-is at c.in-Err-CostLimit.ensures.limited_sides in
    let q = c.args.problem.now in
    let t = c.decide_under-in-Err-CostLimit.new.store in
    IfOk-weaker c.decide_under-in-Err-CostLimit.result _ _
    (has_ids q t (sides_later q c.decide_up_to.new.store t c.decide_under-in-Err-CostLimit.ensures.kept (sides refl)))
    c.decide_under-in-Err-CostLimit.ensures.nodes

pub returns-in-Err-CostLimit-clause-kept : goal.returns-in-Err-CostLimit-clause-kept
returns-in-Err-CostLimit-clause-kept c =
    Grows-trans c.args.store.now c.decide_up_to.new.store c.decide_under-in-Err-CostLimit.new.store c.decide_up_to.ensures.kept c.decide_under-in-Err-CostLimit.ensures.kept

pub returns-in-Err-CostLimit-clause-store : goal.returns-in-Err-CostLimit-clause-store
returns-in-Err-CostLimit-clause-store c = c.decide_under-in-Err-CostLimit.ensures.kept.sound c.decide_up_to.ensures.store
