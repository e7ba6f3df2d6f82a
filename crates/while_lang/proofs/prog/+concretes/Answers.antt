use Rattle.std.proofs.Common.{◌∙◌, sym}
use Rattle.while_lang.proofs.ProgramLists.{concrete_more}
use Rattle.while_lang.proofs.prog.+concretes.Goals as goal

pub Prog::concrete-loop-stmt-preserved : goal.Prog::concrete-loop-stmt-preserved
Prog::concrete-loop-stmt-preserved t c =
    concrete_more c.deref-stmt-items.result.now c.loop-stmt.stmt-index c.stmt-item.result c.loop-stmt-test.true c.stmt-item.is
    (sym c.is_concrete_stmt.ensures ∙ c.if-not-is_concrete_stmt.false)
    ∙ c.loop-stmt.invariant
