use Rattle.std.proofs.Common.{rules, ◌<◌, ◌∙◌, sym, length, drop, arith}
use Rattle.std.proofs.lemmas.List.{append-nil}
use Rattle.std.proofs.lemmas.Result.{IfOk-equal}
use Rattle.kat_model.specs.Stores.{modulus}
use Rattle.while_lang.specs.ProgramViews.{list_tree}
use Rattle.abstraction.specs.Comparisons.{prog_assignments}
use Rattle.abstraction.specs.Tables.{is_same_assignment}
use Rattle.kat_model.proofs.CappedTables.{with_all_new_within-append, with_all_new_within-over}
use Rattle.abstraction.proofs.StatementRows.{assignments_go_on}
use Rattle.abstraction.proofs.assignments.+assignments.Goals as goal

pub add_prog-loop-stmt-preserved : goal.add_prog-loop-stmt-preserved
add_prog-loop-stmt-preserved t c =
    assignments_go_on (modulus c.args.width) c.args.most c.deref-stmt-items.result.now c.loop-stmt.stmt-index c.stmt-item.result c.loop-stmt-test.true c.stmt-item.is
    c.loop-stmt.rows.items c.add_stmt.new.rows.items c.in_ok-add_stmt.ensures
    ∙ c.loop-stmt.invariant

pub add_stmt-returns-in_ok-add_prog-in-If : goal.add_stmt-returns-in_ok-add_prog-in-If
add_stmt-returns-in_ok-add_prog-in-If t c = search (rules, IfOk-equal, with_all_new_within-append, append-nil)

pub add_prog-returns-then-len-most : goal.add_prog-returns-then-len-most
add_prog-returns-then-len-most t c =
    let rows = c.loop-stmt.rows in
    let stmts = c.deref-stmt-items.result.now in
    let over : c.args.most < length rows.items = omega (arith, c.if-len-most.true, c.len.ensures, rows.ok.0) in
    let stays = with_all_new_within-over c.args.most is_same_assignment rows.items (prog_assignments (modulus c.args.width) (list_tree (drop c.loop-stmt.stmt-index stmts))) over in
    rw (← c.prog.view_is, ← c.deref-stmt-items.ensures.value) (sym stays ∙ c.loop-stmt.invariant)
