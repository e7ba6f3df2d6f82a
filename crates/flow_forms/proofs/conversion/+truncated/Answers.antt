use Rattle.std.proofs.Common.{sym, ◌∙◌}
use Rattle.std.proofs.lemmas.Result.{IfOk-weaker}
use Rattle.flow_forms.specs.Forms.{form_tree}
use Rattle.flow_forms.proofs.OtherForms.{no_constant, no_term, no_one, no_factor, no_conversion, truncated-other}
use Rattle.flow_forms.proofs.conversion.+truncated.Goals as goal

pub truncated-returns-in_default : goal.truncated-returns-in_default
truncated-returns-in_default t c =
    let f = c.args.form.now in
    let other = truncated-other c.args.from c.args.to (form_tree f) (no_constant f c.in_default.not-Constant) (no_term f c.in_default.not-Term)
    (no_one f c.in_default.not-One) (no_factor f c.in_default.not-Factor) (no_conversion f c.in_default.not-Converted) in
    IfOk-weaker c.truncated_cell-in_default.result _ _ (λ g is. is ∙ sym other) c.truncated_cell-in_default.ensures
