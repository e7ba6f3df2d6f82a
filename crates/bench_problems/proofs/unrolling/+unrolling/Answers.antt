use Rattle.bench_problems.proofs.UnrolledFlows.{unrolled_more, unrolled_all}
use Rattle.bench_problems.proofs.unrolling.+unrolling.Goals as goal

pub unroll-loop-stmt-preserved : goal.unroll-loop-stmt-preserved
unroll-loop-stmt-preserved t c =
    unrolled_more c.loop-stmt.list.items c.push_stmt.new.list.items c.deref-stmt-items.result.now c.loop-stmt.stmt-index c.stmt-item.result c.in_ok-unroll_stmt.field-0
    c.in_ok-push_stmt.ensures c.in_ok-unroll_stmt.ensures c.loop-stmt-test.true c.stmt-item.is c.loop-stmt.invariant

pub unroll-returns : goal.unroll-returns
unroll-returns t c =
    rw (← c.flows.view_is, ← c.deref-stmt-items.ensures.value) (unrolled_all c.loop-stmt.list.items c.deref-stmt-items.result.now c.loop-stmt.stmt-index c.loop-stmt-test.false c.loop-stmt.invariant)
