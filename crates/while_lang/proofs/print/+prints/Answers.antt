use Rattle.std.proofs.lemmas.Result.{IfOk-equal}
use Rattle.kat_model.specs.Expressions.{expr_tree, cond_tree}
use Rattle.text_parser.specs.declared.meaning.Meaning.TheVariants.{Var}
use Rattle.text_print.specs.Printing.{name_of}
use Rattle.while_lang.proofs.PrintedStatements.{text_more, assign_written, branch_written, loop_written}
use Rattle.while_lang.proofs.print.+prints.Goals as goal

pub put_stmt-returns-in-Assert : goal.put_stmt-returns-in-Assert
put_stmt-returns-in-Assert t c = rw (c.in-Assert.is) c.put_guard.ensures

pub put_stmt-returns-in-Act : goal.put_stmt-returns-in-Act
put_stmt-returns-in-Act t c = rw (c.in-Act.is) c.put_named.ensures

pub put_stmt-returns-in_ok-put_expr-in-Assign : goal.put_stmt-returns-in_ok-put_expr-in-Assign
put_stmt-returns-in_ok-put_expr-in-Assign t c =
    let names = name_of c.args.scope.now in
    rw (c.in-Assign.is)
    (IfOk-equal c.put-in-Assign.result _ _ _ c.put-in-Assign.ensures
    (assign_written names (names (Var c.in-Assign.x)) (expr_tree c.in-Assign.e) _ _ _ c.in_ok-put_named-in-Assign.ensures c.in_ok-put_expr-in-Assign.ensures))

pub put_stmt-returns-in_ok-put-in-If : goal.put_stmt-returns-in_ok-put-in-If
put_stmt-returns-in_ok-put-in-If t c =
    rw (c.in-If.is)
    (IfOk-equal c.put_block-in-If.result _ _ _ c.put_block-in-If.ensures
    (branch_written (name_of c.args.scope.now) (cond_tree c.in-If.b) c.in-If.p c.in-If.q _ _ _ _ c.in_ok-put_guard-in-If.ensures c.in_ok-put_block-in-If.ensures c.in_ok-put-in-If.ensures))

pub put_stmt-returns-in_ok-put_guard-in-While : goal.put_stmt-returns-in_ok-put_guard-in-While
put_stmt-returns-in_ok-put_guard-in-While t c =
    rw (c.in-While.is)
    (IfOk-equal c.put_block-in-While.result _ _ _ c.put_block-in-While.ensures
    (loop_written (name_of c.args.scope.now) (cond_tree c.in-While.b) c.in-While.p _ _ c.in_ok-put_guard-in-While.ensures))

pub put_block-loop-stmt-preserved : goal.put_block-loop-stmt-preserved
put_block-loop-stmt-preserved t c =
    text_more (name_of c.args.scope.now) c.deref-stmt-items.result.now c.loop-stmt.stmt-index c.stmt-item.result c.loop-stmt-test.true c.stmt-item.is _ _ _ c.in_ok-put_stmt.ensures c.loop-stmt.invariant
