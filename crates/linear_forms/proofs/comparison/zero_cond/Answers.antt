use Rattle.std.proofs.Common.{rules}
use Rattle.linear_forms.proofs.Varying.{zero_form-varying}
use Rattle.linear_forms.proofs.comparison.zero_cond.Goals as goal

pub returns : goal.returns
returns c = rw (← c.form.view_is, zero_form-varying _ c.form.inside.terms.items c.form.inside.constant (search rules)) (search rules)
