use Rattle.std.proofs.Common.{rules}
use Rattle.linear_forms.proofs.Signs.{is_constant-varying}
use Rattle.linear_forms.proofs.comparison.is_this.Goals as goal

pub returns-else-is_empty : goal.returns-else-is_empty
returns-else-is_empty c =
    rw (← c.form.view_is, is_constant-varying c.form.inside.terms.items c.form.inside.constant c.args.number (search rules)) (search rules)
