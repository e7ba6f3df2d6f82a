use Rattle.std.proofs.Common.{◌≡◌, sym, ◌∙◌, ap, rules}
use Rattle.std.proofs.lemmas.Result.{IfOk-weaker}
use Rattle.kat_model.specs.Stores.{modulus}
use Rattle.flow_forms.specs.Forms.{constant, term, one, factor, form_tree}
use Rattle.flow_forms.specs.Arithmetic.{form_sum}
use Rattle.flow_forms.proofs.OtherForms.{no_constant, no_term, form_sum-other, form_sum_term-other}
use Rattle.flow_forms.proofs.form.FlowForm.+sums.Goals as goal

pub plus-returns-in_ok-product-in_default : goal.plus-returns-in_ok-product-in_default
plus-returns-in_ok-product-in_default t c =
    let m = modulus c.args.width in
    let none = no_constant c.args.self c.in_default.not-Constant in
    let other = no_term c.args.self c.in_default.not-Term in
    let cell_is : form_tree c.in_ok-product-in_default.product ≡ factor (form_tree c.args.self) one = search rules in
    IfOk-weaker c.plus_term-in_default.result _ _
    (λ f q. q ∙ ap (λ p. form_sum m (term 1 p (constant 0)) (form_tree c.args.right)) cell_is ∙ sym (form_sum-other m (form_tree c.args.self) (form_tree c.args.right) none other))
    c.plus_term-in_default.ensures

pub plus_term-returns-in_ok-rest-in_default : goal.plus_term-returns-in_ok-rest-in_default
plus_term-returns-in_ok-rest-in_default t c =
    let m = modulus c.args.width in
    let p = form_tree c.args.product in
    let other = no_term c.args.self c.in_default.not-Term in
    IfOk-weaker c.new_term-in_default.result _ _
    (λ f q. q ∙ ap (term c.args.times p) c.in_ok-rest-in_default.ensures ∙ sym (form_sum_term-other m c.args.times p (form_tree c.args.rest) (form_tree c.args.self) other))
    c.new_term-in_default.ensures
