use Rattle.std.proofs.lemmas.List.{drop_all}
use Rattle.linear_forms.proofs.Counting.{form_nodes-form_of, counted_all}
use Rattle.linear_forms.proofs.form.+sizes.Goals as goal

pub form_size-returns : goal.form_size-returns
form_size-returns t c =
    rw (← c.form.view_is, form_nodes-form_of c.form.inside.terms.items c.form.inside.constant, ← c.deref-term-items.ensures.value)
    (counted_all c.loop-term.total c.loop-term.term-index _ c.deref-term-items.result.now (c.loop-term.invariant.whole) (drop_all _ c.deref-term-items.result.now c.loop-term-test.false) c.loop-term.invariant.fits)
