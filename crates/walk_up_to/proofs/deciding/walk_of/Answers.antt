use Rattle.std.proofs.Common.{subst}
use Rattle.std.proofs.lemmas.Result.{IfOk-weaker}
use Rattle.kat_model.specs.Closed.{Closed, closed}
use Rattle.term_nodes.proofs.Growing.{Grows-itself}
use Rattle.walk_pairs.specs.ClosedTerms.{AreIdsOf}
use Rattle.walk_up_to.proofs.Decisions.{on_ok}
use Rattle.walk_up_to.proofs.deciding.walk_of.Goals as goal

pub returns-clause-under_way : goal.returns-clause-under_way
returns-clause-under_way c =
    let q = c.args.problem.now in
    let sides : AreIdsOf c.closed_ids.new.store (closed q) c.in_ok-sides.sides = subst (λ (t : Closed). AreIdsOf c.closed_ids.new.store t c.in_ok-sides.sides) c.in_ok-closed.ensures c.in_ok-sides.ensures.ids in
    IfOk-weaker c.new.result _ _
    (λ w started. (
      c.tests-tests.ensures.within,
      started q c.closed_ids.new.store c.tests-tests.ensures.within c.count-count.ensures.store c.tests-tests.ensures.value c.count-count.ensures.value sides.left_id sides.left sides.right_id sides.right sides.universal_id sides.universal,
    ))
    c.new.ensures.under_way

pub returns-clause-sides : goal.returns-clause-sides
returns-clause-sides c =
    let q = c.args.problem.now in
    let sides : AreIdsOf c.closed_ids.new.store (closed q) c.in_ok-sides.sides = subst (λ (t : Closed). AreIdsOf c.closed_ids.new.store t c.in_ok-sides.sides) c.in_ok-closed.ensures c.in_ok-sides.ensures.ids in
    on_ok c.new.result (record { left = (c.in_ok-sides.sides.left, sides.left_id, sides.left); right = (c.in_ok-sides.sides.right, sides.right_id, sides.right) })

pub returns-in_err-closed-clause-kept : goal.returns-in_err-closed-clause-kept
returns-in_err-closed-clause-kept c = Grows-itself c.args.store.now

pub returns-in_err-closed-clause-store : goal.returns-in_err-closed-clause-store
returns-in_err-closed-clause-store c = c.count.ensures.store

pub returns-in_err-sides-clause-kept : goal.returns-in_err-sides-clause-kept
returns-in_err-sides-clause-kept c = c.in_err-sides.ensures.kept

pub returns-clause-limit : goal.returns-clause-limit
returns-clause-limit c = c.new.ensures.limit

pub returns-clause-kept : goal.returns-clause-kept
returns-clause-kept c = c.in_ok-sides.ensures.kept

pub returns-clause-store : goal.returns-clause-store
returns-clause-store c = c.count-count.ensures.store
