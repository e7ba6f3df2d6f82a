use Rattle.std.proofs.Common.{arith}
use Rattle.kat_model.specs.Expressions.{expr_tree, cond_tree}
use Rattle.text_parser.specs.Sizes.{expr_size, cond_size}
use Rattle.while_lang.specs.ProgramSizes.{prog_size}
use Rattle.while_lang.proofs.ProgramCounts.{above_counted, loop_counted, branch_counted, sized_more, sized_all}
use Rattle.while_lang.proofs.size.+sizes.Goals as goal

pub stmt_size-returns-in-Assert : goal.stmt_size-returns-in-Assert
stmt_size-returns-in-Assert t c =
    rw (c.in-Assert.is) (above_counted (cond_size (cond_tree c.in-Assert.b)) c.cond_size.result c.saturating_add.result c.cond_size.ensures c.saturating_add.ensures)

pub stmt_size-returns-in-Assign : goal.stmt_size-returns-in-Assign
stmt_size-returns-in-Assign t c =
    rw (c.in-Assign.is) (above_counted (expr_size (expr_tree c.in-Assign.e)) c.expr_size.result c.saturating_add-in-Assign.result c.expr_size.ensures c.saturating_add-in-Assign.ensures)

pub stmt_size-returns-in-If : goal.stmt_size-returns-in-If
stmt_size-returns-in-If t c =
    rw (c.in-If.is)
    (branch_counted (cond_size (cond_tree c.in-If.b)) (prog_size c.in-If.p) (prog_size c.in-If.q) c.cond_size-in-If.result c.prog_size.result c.prog_size-in-If.result
    c.saturating_add-in-If.result c.saturating_add-in-If-2.result c.saturating_add-in-If-3.result
    c.cond_size-in-If.ensures c.prog_size.ensures c.prog_size-in-If.ensures c.saturating_add-in-If.ensures c.saturating_add-in-If-2.ensures c.saturating_add-in-If-3.ensures)

pub stmt_size-returns-in-While : goal.stmt_size-returns-in-While
stmt_size-returns-in-While t c =
    rw (c.in-While.is)
    (loop_counted (cond_size (cond_tree c.in-While.b)) (prog_size c.in-While.p) c.cond_size-in-While.result c.prog_size-in-While.result c.saturating_add-in-While.result c.saturating_add-in-While-2.result
    c.cond_size-in-While.ensures c.prog_size-in-While.ensures c.saturating_add-in-While.ensures c.saturating_add-in-While-2.ensures)

pub prog_size-loop-stmt-preserved : goal.prog_size-loop-stmt-preserved
prog_size-loop-stmt-preserved t c =
    record {
      fits = omega (arith, c.saturating_add-total.ensures);
      whole = sized_more c.deref-stmt-items.result.now c.loop-stmt.stmt-index c.loop-stmt.total _ c.loop-stmt.invariant.whole c.stmt-item.result c.stmt_size.result c.saturating_add-total.result
          c.loop-stmt-test.true c.stmt-item.is c.stmt_size.ensures c.saturating_add-total.ensures;
    }

pub prog_size-returns : goal.prog_size-returns
prog_size-returns t c =
    rw (← c.prog.view_is, ← c.deref-stmt-items.ensures.value)
    (sized_all c.deref-stmt-items.result.now c.loop-stmt.stmt-index c.loop-stmt.total _ c.loop-stmt.invariant.whole c.loop-stmt-test.false c.loop-stmt.invariant.fits)
