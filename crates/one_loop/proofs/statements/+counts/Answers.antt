use Rattle.std.proofs.Common.{◌≡◌, ◌∙◌, ap, arith}
use Rattle.one_loop.proofs.PointLists.{all_counted}
use Rattle.while_lang.specs.Programs.{statements}
use Rattle.while_lang.specs.ProgramViews.{list_tree}
use Rattle.one_loop.proofs.statements.+counts.Goals as goal

pub statement_count-returns : goal.statement_count-returns
statement_count-returns t c =
    let items : list_tree c.deref-stmt-items.result.now ≡ c.args.prog.now = ap list_tree c.deref-stmt-items.ensures.value ∙ c.prog.view_is in
    let all = all_counted c.loop-stmt.total c.loop-stmt.stmt-index c.deref-stmt-items.result.now c.args.prog.now c.loop-stmt-test.false c.loop-stmt.invariant.whole items in
    (omega (arith, all, c.loop-stmt.invariant.fits), all)
