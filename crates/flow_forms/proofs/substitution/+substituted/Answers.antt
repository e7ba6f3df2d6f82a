use Rattle.std.proofs.Common.{◌≡◌, refl}
use Rattle.flow_forms.specs.Forms.{term, factor, variable, applied, converted, argument, form_tree}
use Rattle.flow_forms.proofs.substitution.+substituted.Goals as goal

pub substitute-returns-in_ok-product-in-Term-clause-made : goal.substitute-returns-in_ok-product-in-Term-clause-made
substitute-returns-in_ok-product-in-Term-clause-made t c =
    let tree : form_tree c.args.form.now ≡ term c.in-Term.times (form_tree c.deref.result.now) (form_tree c.deref-in-Term.result.now) = rw (c.in-Term.is, c.deref.ensures, c.deref-in-Term.ensures) refl in
    let parts = c.in_ok-product-in-Term.ensures in
    rw (tree, ← parts.first, ← parts.second) c.sum_in.ensures.made

pub substitute-returns-in_ok-product-in-Term-clause-fits : goal.substitute-returns-in_ok-product-in-Term-clause-fits
substitute-returns-in_ok-product-in-Term-clause-fits t c =
    let tree : form_tree c.args.form.now ≡ term c.in-Term.times (form_tree c.deref.result.now) (form_tree c.deref-in-Term.result.now) = rw (c.in-Term.is, c.deref.ensures, c.deref-in-Term.ensures) refl in
    let parts = c.in_ok-product-in-Term.ensures in
    rw (tree, parts.first_fits, parts.second_fits, ← parts.first, ← parts.second) c.sum_in.ensures.fits

pub substitute-returns-in_ok-product-in-Term-clause-refused : goal.substitute-returns-in_ok-product-in-Term-clause-refused
substitute-returns-in_ok-product-in-Term-clause-refused t c =
    let tree : form_tree c.args.form.now ≡ term c.in-Term.times (form_tree c.deref.result.now) (form_tree c.deref-in-Term.result.now) = rw (c.in-Term.is, c.deref.ensures, c.deref-in-Term.ensures) refl in
    let parts = c.in_ok-product-in-Term.ensures in
    rw (tree, parts.first_fits, parts.second_fits, ← parts.first, ← parts.second) c.sum_in.ensures.refused

pub substitute-returns-in_ok-cell-in-Factor-clause-made : goal.substitute-returns-in_ok-cell-in-Factor-clause-made
substitute-returns-in_ok-cell-in-Factor-clause-made t c =
    let tree : form_tree c.args.form.now ≡ factor (form_tree c.deref-in-Factor.result.now) (form_tree c.deref-in-Factor-2.result.now) = rw (c.in-Factor.is, c.deref-in-Factor.ensures, c.deref-in-Factor-2.ensures) refl in
    let parts = c.in_ok-cell-in-Factor.ensures in
    rw (tree, ← parts.first, ← parts.second) c.product_in.ensures.made

pub substitute-returns-in_ok-cell-in-Factor-clause-fits : goal.substitute-returns-in_ok-cell-in-Factor-clause-fits
substitute-returns-in_ok-cell-in-Factor-clause-fits t c =
    let tree : form_tree c.args.form.now ≡ factor (form_tree c.deref-in-Factor.result.now) (form_tree c.deref-in-Factor-2.result.now) = rw (c.in-Factor.is, c.deref-in-Factor.ensures, c.deref-in-Factor-2.ensures) refl in
    let parts = c.in_ok-cell-in-Factor.ensures in
    rw (tree, parts.first_fits, parts.second_fits, ← parts.first, ← parts.second) c.product_in.ensures.fits

pub substitute-returns-in_ok-cell-in-Factor-clause-refused : goal.substitute-returns-in_ok-cell-in-Factor-clause-refused
substitute-returns-in_ok-cell-in-Factor-clause-refused t c =
    let tree : form_tree c.args.form.now ≡ factor (form_tree c.deref-in-Factor.result.now) (form_tree c.deref-in-Factor-2.result.now) = rw (c.in-Factor.is, c.deref-in-Factor.ensures, c.deref-in-Factor-2.ensures) refl in
    let parts = c.in_ok-cell-in-Factor.ensures in
    rw (tree, parts.first_fits, parts.second_fits, ← parts.first, ← parts.second) c.product_in.ensures.refused

pub substitute-returns-in-Variable-clause-made : goal.substitute-returns-in-Variable-clause-made
substitute-returns-in-Variable-clause-made t c =
    let tree : form_tree c.args.form.now ≡ variable c.in-Variable.k = rw c.in-Variable.is refl in
    rw tree c.variable_in.ensures.made

pub substitute-returns-in-Variable-clause-fits : goal.substitute-returns-in-Variable-clause-fits
substitute-returns-in-Variable-clause-fits t c =
    let tree : form_tree c.args.form.now ≡ variable c.in-Variable.k = rw c.in-Variable.is refl in
    rw tree c.variable_in.ensures.fits

pub substitute-returns-in-Variable-clause-refused : goal.substitute-returns-in-Variable-clause-refused
substitute-returns-in-Variable-clause-refused t c =
    let tree : form_tree c.args.form.now ≡ variable c.in-Variable.k = rw c.in-Variable.is refl in
    rw tree c.variable_in.ensures.refused

pub substitute-returns-in_ok-arguments-in-Applied-clause-made : goal.substitute-returns-in_ok-arguments-in-Applied-clause-made
substitute-returns-in_ok-arguments-in-Applied-clause-made t c =
    let tree : form_tree c.args.form.now ≡ applied c.in-Applied.function c.in-Applied.sort (form_tree c.deref-in-Applied.result.now) = rw (c.in-Applied.is, c.deref-in-Applied.ensures) refl in
    let part = c.in_ok-arguments-in-Applied.ensures in
    rw (tree, ← part.made) c.application_in.ensures.made

pub substitute-returns-in_ok-arguments-in-Applied-clause-fits : goal.substitute-returns-in_ok-arguments-in-Applied-clause-fits
substitute-returns-in_ok-arguments-in-Applied-clause-fits t c =
    let tree : form_tree c.args.form.now ≡ applied c.in-Applied.function c.in-Applied.sort (form_tree c.deref-in-Applied.result.now) = rw (c.in-Applied.is, c.deref-in-Applied.ensures) refl in
    let part = c.in_ok-arguments-in-Applied.ensures in
    rw (tree, part.fits, ← part.made) c.application_in.ensures.fits

pub substitute-returns-in_ok-arguments-in-Applied-clause-refused : goal.substitute-returns-in_ok-arguments-in-Applied-clause-refused
substitute-returns-in_ok-arguments-in-Applied-clause-refused t c =
    let tree : form_tree c.args.form.now ≡ applied c.in-Applied.function c.in-Applied.sort (form_tree c.deref-in-Applied.result.now) = rw (c.in-Applied.is, c.deref-in-Applied.ensures) refl in
    let part = c.in_ok-arguments-in-Applied.ensures in
    rw (tree, part.fits, ← part.made) c.application_in.ensures.refused

pub substitute-returns-in_ok-inner-in-Converted-clause-made : goal.substitute-returns-in_ok-inner-in-Converted-clause-made
substitute-returns-in_ok-inner-in-Converted-clause-made t c =
    let tree : form_tree c.args.form.now ≡ converted c.in-Converted.signed c.in-Converted.from c.in-Converted.to (form_tree c.deref-in-Converted.result.now) = rw (c.in-Converted.is, c.deref-in-Converted.ensures) refl in
    let part = c.in_ok-inner-in-Converted.ensures in
    rw (tree, ← part.made) c.conversion_in.ensures.made

pub substitute-returns-in_ok-inner-in-Converted-clause-fits : goal.substitute-returns-in_ok-inner-in-Converted-clause-fits
substitute-returns-in_ok-inner-in-Converted-clause-fits t c =
    let tree : form_tree c.args.form.now ≡ converted c.in-Converted.signed c.in-Converted.from c.in-Converted.to (form_tree c.deref-in-Converted.result.now) = rw (c.in-Converted.is, c.deref-in-Converted.ensures) refl in
    let part = c.in_ok-inner-in-Converted.ensures in
    rw (tree, part.fits, ← part.made) c.conversion_in.ensures.fits

pub substitute-returns-in_ok-inner-in-Converted-clause-refused : goal.substitute-returns-in_ok-inner-in-Converted-clause-refused
substitute-returns-in_ok-inner-in-Converted-clause-refused t c =
    let tree : form_tree c.args.form.now ≡ converted c.in-Converted.signed c.in-Converted.from c.in-Converted.to (form_tree c.deref-in-Converted.result.now) = rw (c.in-Converted.is, c.deref-in-Converted.ensures) refl in
    let part = c.in_ok-inner-in-Converted.ensures in
    rw (tree, part.fits, ← part.made) c.conversion_in.ensures.refused

pub substitute-returns-in_ok-part-in-Argument-clause-made : goal.substitute-returns-in_ok-part-in-Argument-clause-made
substitute-returns-in_ok-part-in-Argument-clause-made t c =
    let tree : form_tree c.args.form.now ≡ argument c.in-Argument.sort (form_tree c.deref-in-Argument.result.now) (form_tree c.deref-in-Argument-2.result.now) = rw (c.in-Argument.is, c.deref-in-Argument.ensures, c.deref-in-Argument-2.ensures) refl in
    let parts = c.in_ok-part-in-Argument.ensures in
    rw (tree, ← c.place_of-own.ensures, ← parts.first, ← parts.second) c.stacked.ensures.made
