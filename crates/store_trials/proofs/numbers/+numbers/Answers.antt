use Rattle.store_trials.proofs.ProgNumbers.{numbers_more, numbers_all}
use Rattle.store_trials.proofs.numbers.+numbers.Goals as goal

pub add_prog-loop-stmt-preserved : goal.add_prog-loop-stmt-preserved
add_prog-loop-stmt-preserved t c =
    numbers_more c.deref-stmt-items.result.now c.loop-stmt.stmt-index c.stmt-item.result c.loop-stmt.out.items c.add_stmt.new.out.items _
    c.loop-stmt-test.true c.stmt-item.is c.in_ok-add_stmt.ensures c.loop-stmt.invariant

pub add_prog-returns : goal.add_prog-returns
add_prog-returns t c =
    rw (← c.prog.view_is, ← c.deref-stmt-items.ensures.value) (numbers_all c.deref-stmt-items.result.now c.loop-stmt.stmt-index c.loop-stmt.out.items _ c.loop-stmt-test.false c.loop-stmt.invariant)
