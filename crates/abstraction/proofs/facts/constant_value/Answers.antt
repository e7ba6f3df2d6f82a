use Rattle.std.proofs.Common.{rules, refl}
use Rattle.abstraction.proofs.ConstantForms.{constant_value-varying}
use Rattle.abstraction.proofs.facts.constant_value.Goals as goal

pub returns : goal.returns
returns c = rw (← c.form.view_is, constant_value-varying c.form.inside.terms.items c.form.inside.constant (search rules)) refl
