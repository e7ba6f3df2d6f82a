use Rattle.std.proofs.lemmas.Result.{IfOk-weaker}
use Rattle.kat_model.specs.Expressions.{expr_tree}
use Rattle.kat_model.specs.Stores.{modulus}
use Rattle.linear_forms.proofs.StoredValues.{modulus_above_one, form_value-normal_form}
use Rattle.linear_forms.proofs.Forming.{is_form_normal}
use Rattle.linear_forms.proofs.expression.normal.Goals as goal

pub returns-clause-kept : goal.returns-clause-kept
returns-clause-kept c =
    IfOk-weaker c.normal_of.result _ _ (λ f e s i. rw (e) (form_value-normal_form c.args.width s (expr_tree c.args.expr.now) i)) c.normal_of.ensures

pub returns-clause-form : goal.returns-clause-form
returns-clause-form c =
    IfOk-weaker c.normal_of.result _ _ (λ f e. rw (e) (is_form_normal (modulus c.args.width) (expr_tree c.args.expr.now) (modulus_above_one c.args.width))) c.normal_of.ensures
