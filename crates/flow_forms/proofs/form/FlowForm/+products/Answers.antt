use Rattle.std.proofs.Common.{sym, ◌∙◌, ap}
use Rattle.std.proofs.lemmas.Result.{IfOk-weaker}
use Rattle.flow_forms.specs.Forms.{factor, form_tree}
use Rattle.flow_forms.proofs.OtherForms.{no_one, no_factor, joined-other, joined_factor-other}
use Rattle.flow_forms.proofs.form.FlowForm.+products.Goals as goal

pub joined-returns-in_default : goal.joined-returns-in_default
joined-returns-in_default t c =
    let none = no_one c.args.self c.in_default.not-One in
    let other = no_factor c.args.self c.in_default.not-Factor in
    IfOk-weaker c.joined_before-in_default.result _ _
    (λ f q. q ∙ sym (joined-other (form_tree c.args.self) (form_tree c.args.right) none other))
    c.joined_before-in_default.ensures

pub joined_before-returns-in_ok-rest-in_default : goal.joined_before-returns-in_ok-rest-in_default
joined_before-returns-in_ok-rest-in_default t c =
    let other = no_factor c.args.self c.in_default.not-Factor in
    IfOk-weaker c.new_factor-in_default.result _ _
    (λ f q. q ∙ ap (factor (form_tree c.args.cell)) c.in_ok-rest-in_default.ensures ∙ sym (joined_factor-other (form_tree c.args.cell) (form_tree c.args.rest) (form_tree c.args.self) other))
    c.new_factor-in_default.ensures
