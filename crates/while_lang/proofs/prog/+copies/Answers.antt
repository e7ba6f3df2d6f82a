use Rattle.std.proofs.Common.{refl}
use Rattle.while_lang.proofs.ProgramLists.{copied_more, copied_all}
use Rattle.while_lang.proofs.prog.+copies.Goals as goal

pub Prog::copy-loop-stmt-preserved : goal.Prog::copy-loop-stmt-preserved
Prog::copy-loop-stmt-preserved t c =
    copied_more c.loop-stmt.list.items c.push_stmt.new.list.items c.deref-stmt-items.result.now c.loop-stmt.stmt-index c.stmt-item.result c.in_ok-copy_stmt.field-0
    c.in_ok-push_stmt.ensures c.in_ok-copy_stmt.ensures c.loop-stmt-test.true c.stmt-item.is c.loop-stmt.invariant

pub Prog::copy-returns : goal.Prog::copy-returns
Prog::copy-returns t c =
    rw (← c.self.view_is, ← c.deref-stmt-items.ensures.value) (copied_all c.loop-stmt.list.items c.deref-stmt-items.result.now c.loop-stmt.stmt-index c.loop-stmt-test.false c.loop-stmt.invariant)

pub copy_stmt-returns-in_ok-second-in-If : goal.copy_stmt-returns-in_ok-second-in-If
copy_stmt-returns-in_ok-second-in-If t c = rw (c.in-If.is, c.in_ok-cond-in-If.ensures, c.in_ok-first-in-If.ensures, c.in_ok-second-in-If.ensures) refl

pub copy_stmt-returns-in_ok-body-in-While : goal.copy_stmt-returns-in_ok-body-in-While
copy_stmt-returns-in_ok-body-in-While t c = rw (c.in-While.is, c.in_ok-cond-in-While.ensures, c.in_ok-body-in-While.ensures) refl
