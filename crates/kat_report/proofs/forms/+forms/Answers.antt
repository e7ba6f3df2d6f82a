use Rattle.std.proofs.lemmas.Result.{on_ok_weaker}
use Rattle.text_print.specs.Printing.{name_of}
use Rattle.kat_report.proofs.FormTexts.{sum_written, sum_ended}
use Rattle.kat_report.proofs.forms.+forms.Goals as goal

pub put_form-loop-term-preserved : goal.put_form-loop-term-preserved
put_form-loop-term-preserved t c =
    sum_written (name_of c.args.scope.now) c.loop-term.first c.deref-term-items.result.now c.form.inside.constant c.loop-term.term-index c.term-item.result
    _ c.loop-term.out.items c.put_term.new.out.items c.loop-term-test.true c.term-item.is c.in_ok-put_term.ensures c.loop-term.invariant

pub put_form-returns : goal.put_form-returns
put_form-returns t c =
    rw (← c.form.view_is, ← c.deref-term-items.ensures.value)
    (on_ok_weaker c.put_constant.result
    (sum_ended (name_of c.args.scope.now) c.loop-term.first c.deref-term-items.result.now c.form.inside.constant c.loop-term.term-index
    _ c.loop-term.out.items c.put_constant.new.out.items c.loop-term-test.false c.loop-term.invariant)
    c.put_constant.ensures)
