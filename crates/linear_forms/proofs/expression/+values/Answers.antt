use Rattle.std.proofs.Common.{rules, sym}
use Rattle.std.proofs.lemmas.Nat.{mul-mod}
use Rattle.kat_model.specs.Stores.{modulus}
use Rattle.linear_forms.specs.Values.{polynomial}
use Rattle.linear_forms.specs.Views.{mono_tree}
use Rattle.linear_forms.proofs.Modulo.{cong_cut}
use Rattle.linear_forms.proofs.Totals.{total_begun, total_more}
use Rattle.linear_forms.proofs.expression.+values.Goals as goal

pub mono_value-returns-in-Product : goal.mono_value-returns-in-Product
mono_value-returns-in-Product t c =
    rw (c.in-Product.is, c.mul.ensures, c.value.ensures, c.value-in-Product.ensures, c.deref.ensures, c.deref-in-Product.ensures) (sym (mul-mod _ _ (modulus c.args.width)))

pub value-loop-term-init : goal.value-loop-term-init
value-loop-term-init t c =
    rw (c.residue-total.ensures, c.deref-term-items.ensures.value, ← c.form.view_is)
    (let p = total_begun (modulus c.args.width) c.args.store.now c.form.inside.terms.items c.form.inside.constant in record { cut = p.0; whole = p.1 })

pub value-loop-term-preserved : goal.value-loop-term-preserved
value-loop-term-preserved t c =
    let p = total_more (modulus c.args.width) c.args.store.now c.loop-term.total c.loop-term.term-index c.deref-term-items.result.now (polynomial c.args.store.now c.args.form.now)
    (mono_tree c.term.inside.mono, c.term.inside.times) (search rules) (search rules) c.loop-term.invariant.whole in
    rw (c.add-total.ensures, c.mul-part.ensures, c.mono_value.ensures) (record { cut = cong_cut (modulus c.args.width) _; whole = p })
