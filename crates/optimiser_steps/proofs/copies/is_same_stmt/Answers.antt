use Rattle.while_lang.specs.ProgramViews.{stmt_tree}
use Rattle.optimiser_steps.proofs.ListedPrograms.{same_statements}
use Rattle.optimiser_steps.proofs.copies.is_same_stmt.Goals as goal

pub returns : goal.returns
returns c =
    same_statements c.same.result c.in_ok-first.first c.in_ok-second.second (stmt_tree c.in_ok-copy_stmt.field-0) (stmt_tree c.in_ok-copy_stmt-2.field-0) (stmt_tree c.args.left.now) (stmt_tree c.args.right.now)
    c.same.ensures c.in_ok-first.ensures c.in_ok-second.ensures c.in_ok-copy_stmt.ensures c.in_ok-copy_stmt-2.ensures
