use Rattle.std.proofs.Common.{rules, refl, ◌≡◌}
use Rattle.kat_model.specs.Stores.{modulus}
use Rattle.linear_forms.specs.Forms.{terms_of, constant_of}
use Rattle.linear_forms.specs.Arithmetic.{scale}
use Rattle.linear_forms.proofs.Terms.{constant_of-form_of}
use Rattle.linear_forms.proofs.Merging.{scale_at_end}
use Rattle.linear_forms.proofs.arithmetic.multiple.Goals as goal

pub loop-term-init : goal.loop-term-init
loop-term-init c = rw (← c.into_terms-term-items.ensures) (search rules)

pub returns : goal.returns
returns c =
    let e : constant_of c.args.form ≡ c.form.inside.constant = rw (← c.form.view_is) (constant_of-form_of c.form.inside.terms.items c.form.inside.constant) in
    let h : c.loop-term.to.items ≡ scale (modulus c.args.width) c.args.times (terms_of c.args.form) = scale_at_end (modulus c.args.width) c.args.times c.loop-term.to.items c.loop-term.term-iterator.rest.items _ c.loop-term.invariant (search rules) in
    rw (e, ← h, ← c.mul-constant.ensures) refl
