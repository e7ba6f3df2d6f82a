use Rattle.std.proofs.Common.{◌+◌, ◌-◌, length, map, arith}
use Rattle.std.proofs.lemmas.List.{length-drop}
use Rattle.while_lang.specs.ProgramViews.{stmt_tree}
use Rattle.optimiser_steps.proofs.ListedPrograms.{with_stmt_at}
use Rattle.optimiser_steps.proofs.paths.list_with.Goals as goal

pub returns : goal.returns
returns c =
    let list = c.args.list.now in
    let after = c.args.position + 1 in
    with_stmt_at list c.args.position after (length list - after) c.args.stmt (map stmt_tree c.in_ok-whole.whole.items) (map stmt_tree c.push_stmt.new.list.items) (map stmt_tree c.push_copies.new.list.items)
    (omega (arith, length-drop after list)) c.in_ok-whole.ensures c.in_ok-push_stmt.ensures c.in_ok-push_copies.ensures
