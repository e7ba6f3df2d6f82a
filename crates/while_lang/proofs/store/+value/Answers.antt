use Rattle.kat_model.specs.Expressions.{variable}
use Rattle.linear_forms.proofs.StoredValues.{value_below}
use Rattle.while_lang.proofs.store.+value.Goals as goal

pub returns-in-Var-clause-bound : goal.returns-in-Var-clause-bound
returns-in-Var-clause-bound t c = rw (c.value_at.ensures) (value_below c.args.width c.args.store.now (variable c.in-Var.k) c.requires)
