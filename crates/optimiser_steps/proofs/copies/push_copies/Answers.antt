use Rattle.std.proofs.Common.{map}
use Rattle.while_lang.specs.ProgramViews.{stmt_tree}
use Rattle.optimiser_steps.proofs.ListedPrograms.{pushed_more, pushed_all}
use Rattle.optimiser_steps.proofs.copies.push_copies.Goals as goal

pub loop-stmt-preserved : goal.loop-stmt-preserved
loop-stmt-preserved c =
    pushed_more (map stmt_tree c.args.list.now.items) c.loop-stmt.list.items c.push_stmt.new.list.items c.args.stmts.now c.loop-stmt.stmt-index c.stmt-item.result c.in_ok-copy_stmt.field-0
    c.in_ok-push_stmt.ensures c.in_ok-copy_stmt.ensures c.loop-stmt-test.true c.stmt-item.is c.loop-stmt.invariant

pub returns : goal.returns
returns c = pushed_all (map stmt_tree c.args.list.now.items) c.loop-stmt.list.items c.args.stmts.now c.loop-stmt.stmt-index c.loop-stmt-test.false c.loop-stmt.invariant
