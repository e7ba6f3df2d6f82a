use Rattle.std.proofs.lemmas.Result.{on_ok_weaker}
use Rattle.kat_model.specs.Stores.{modulus}
use Rattle.text_print.specs.Printing.{name_of}
use Rattle.tool_explain.proofs.SignedSums.{signed_written, signed_ended}
use Rattle.tool_explain.proofs.signed.+signed.Goals as goal

pub put_signed-loop-term-preserved : goal.put_signed-loop-term-preserved
put_signed-loop-term-preserved t c =
    signed_written (modulus c.args.width) (name_of c.args.scope.now) c.loop-term.first c.deref-term-items.result.now c.form.inside.constant c.loop-term.term-index c.term-item.result
    _ c.loop-term.out.items c.put_part.new.out.items c.loop-term-test.true c.term-item.is c.in_ok-put_part.ensures c.loop-term.invariant

pub put_signed-returns : goal.put_signed-returns
put_signed-returns t c =
    rw (← c.form.view_is, ← c.deref-term-items.ensures.value)
    (on_ok_weaker c.put_signed_constant.result
    (signed_ended (modulus c.args.width) (name_of c.args.scope.now) c.loop-term.first c.deref-term-items.result.now c.form.inside.constant c.loop-term.term-index
    _ c.loop-term.out.items c.put_signed_constant.new.out.items c.loop-term-test.false c.loop-term.invariant)
    c.put_signed_constant.ensures)
