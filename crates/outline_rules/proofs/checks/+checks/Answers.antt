use Rattle.std.proofs.Common.{◌≡◌, suc, ap, ◌∙◌}
use Rattle.std.proofs.lemmas.Result.{on_ok_weaker}
use Rattle.kat_model.specs.Trees.{test_tree}
use Rattle.while_lang.specs.FlowViews.{flows_tree}
use Rattle.outline_rules.proofs.StatementChecks.{block_checked, branch_checked, loop_checked, and_second, and_both, place_more, checks_more}
use Rattle.outline_rules.proofs.checks.+checks.Goals as goal

pub push_stmt_checks-returns-in_ok-second_end-in-If-clause-place : goal.push_stmt_checks-returns-in_ok-second_end-in-If-clause-place
push_stmt_checks-returns-in_ok-second_end-in-If-clause-place t c =
    rw (c.in-If.is, ← c.in_ok-first_end-in-If.ensures.place, ← c.in_ok-second_end-in-If.ensures.place)
    (and_second (λ after. after ≡ suc c.in_ok-second_end-in-If.second_end) c.push_implied-joined.result c.push_implied-in-If.result c.and.result c.and.ensures c.push_implied-in-If.ensures.place)

pub push_stmt_checks-returns-in_ok-second_end-in-If-clause-checks : goal.push_stmt_checks-returns-in_ok-second_end-in-If-clause-checks
push_stmt_checks-returns-in_ok-second_end-in-If-clause-checks t c =
    rw (c.in-If.is)
    (and_both c.push_implied-joined.result c.push_implied-in-If.result c.and.result c.and.ensures c.push_implied-joined.ensures.checks c.push_implied-in-If.ensures.checks
    (branch_checked (test_tree c.in-If.b) c.in-If.f c.in-If.g c.args.place c.in_ok-first_end-in-If.first_end c.in_ok-second_end-in-If.second_end _ _ _ _ _
    c.in_ok-first_end-in-If.ensures.place c.in_ok-second_end-in-If.ensures.place c.in_ok-first_end-in-If.ensures.checks c.in_ok-second_end-in-If.ensures.checks))

pub push_stmt_checks-returns-in_ok-body_end-in-While-clause-place : goal.push_stmt_checks-returns-in_ok-body_end-in-While-clause-place
push_stmt_checks-returns-in_ok-body_end-in-While-clause-place t c =
    rw (c.in-While.is, ← c.in_ok-invariant-in-While.ensures.place, ← c.in_ok-body_end-in-While.ensures.place)
    (and_second (λ after. after ≡ suc c.in_ok-body_end-in-While.body_end) c.push_check-again.result c.push_implied-in-While-2.result c.and-in-While.result c.and-in-While.ensures c.push_implied-in-While-2.ensures.place)

pub push_stmt_checks-returns-in_ok-body_end-in-While-clause-checks : goal.push_stmt_checks-returns-in_ok-body_end-in-While-clause-checks
push_stmt_checks-returns-in_ok-body_end-in-While-clause-checks t c =
    rw (c.in-While.is)
    (and_both c.push_check-again.result c.push_implied-in-While-2.result c.and-in-While.result c.and-in-While.ensures c.push_check-again.ensures c.push_implied-in-While-2.ensures.checks
    (loop_checked (test_tree c.in-While.b) c.in-While.f c.args.place c.in_ok-invariant-in-While.invariant c.in_ok-body_end-in-While.body_end _ _ _ _ _
    c.in_ok-invariant-in-While.ensures.place c.in_ok-body_end-in-While.ensures.place c.in_ok-invariant-in-While.ensures.checks c.in_ok-body_end-in-While.ensures.checks))

pub push_block-returns-clause-place : goal.push_block-returns-clause-place
push_block-returns-clause-place t c = rw (← c.in_ok-first.ensures.place, ← c.block.view_is, ← c.deref.ensures.value) c.push_checks.ensures.place

pub push_block-returns-clause-checks : goal.push_block-returns-clause-checks
push_block-returns-clause-checks t c =
    on_ok_weaker c.push_checks.result
    (block_checked c.args.block.now (flows_tree c.deref.result.now) (suc c.args.previous) c.in_ok-first.first _ _ _ _
    (ap flows_tree c.deref.ensures.value ∙ c.block.view_is) c.in_ok-first.ensures.place c.in_ok-first.ensures.checks)
    c.push_checks.ensures.checks

pub push_checks-loop-stmt-preserved : goal.push_checks-loop-stmt-preserved
push_checks-loop-stmt-preserved t c =
    let items = c.args.list.now in
    let i = c.loop-stmt.stmt-index in
    let next = c.in_ok-at.ensures.place in
    record {
      place = place_more items i c.stmt-item.result c.loop-stmt-test.true c.stmt-item.is c.loop-stmt.at c.in_ok-at.at _ next c.loop-stmt.invariant.place;
      checks = checks_more items i c.stmt-item.result c.loop-stmt-test.true c.stmt-item.is _ _ _ c.loop-stmt.at c.in_ok-at.at next c.in_ok-at.ensures.checks c.loop-stmt.invariant.checks;
    }
