use Rattle.std.proofs.Common.{◌≡◌, sym, ◌∙◌, rules}
use mathlib.Core.Path.{ap₂}
use Rattle.std.proofs.lemmas.Result.{IfOk-weaker}
use Rattle.kat_model.specs.Stores.{modulus}
use Rattle.flow_forms.specs.Forms.{constant, one, factor, form_tree}
use Rattle.flow_forms.specs.Arithmetic.{nonzero_term, joined}
use Rattle.flow_forms.proofs.OtherForms.{no_constant, no_term, term_times-other}
use Rattle.flow_forms.proofs.arithmetic.+term_times.Goals as goal

pub returns-in_ok-other-in_default : goal.returns-in_ok-other-in_default
returns-in_ok-other-in_default t c =
    let m = modulus c.args.width in
    let none = no_constant c.args.form.now c.in_default.not-Constant in
    let other = no_term c.args.form.now c.in_default.not-Term in
    let cell_is : form_tree c.in_ok-other-in_default.other ≡ factor (form_tree c.args.form.now) one = search rules in
    IfOk-weaker c.joined_times-in_default.result _ _
    (λ f q. q ∙ ap₂ (λ n p. nonzero_term n (joined (form_tree c.args.product.now) p) (constant 0)) c.residue.ensures cell_is ∙ sym (term_times-other m c.args.times (form_tree c.args.product.now) (form_tree c.args.form.now) none other))
    c.joined_times-in_default.ensures
