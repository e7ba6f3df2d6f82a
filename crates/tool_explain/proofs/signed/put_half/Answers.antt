use Rattle.std.proofs.lemmas.Result.{on_ok_weaker}
use Rattle.kat_model.specs.Stores.{modulus}
use Rattle.text_print.specs.Printing.{name_of}
use Rattle.tool_explain.proofs.SignedSums.{half_written, half_ended}
use Rattle.tool_explain.proofs.signed.put_half.Goals as goal

pub loop-term-preserved : goal.loop-term-preserved
loop-term-preserved c =
    rw c.still_first-first.ensures
    (half_written (modulus c.args.width) (name_of c.args.scope.now) c.args.side c.loop-term.first c.deref-term-items.result.now c.form.inside.constant c.loop-term.term-index c.term-item.result
    _ c.loop-term.out.items c.put_half_term.new.out.items c.loop-term-test.true c.term-item.is c.in_ok-put_half_term.ensures c.loop-term.invariant)

pub returns : goal.returns
returns c =
    rw (← c.form.view_is, ← c.deref-term-items.ensures.value)
    (on_ok_weaker c.put_half_constant.result
    (half_ended (modulus c.args.width) (name_of c.args.scope.now) c.args.side c.loop-term.first c.deref-term-items.result.now c.form.inside.constant c.loop-term.term-index
    _ c.loop-term.out.items c.put_half_constant.new.out.items c.loop-term-test.false c.loop-term.invariant)
    c.put_half_constant.ensures)
