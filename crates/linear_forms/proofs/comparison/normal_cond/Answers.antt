use Rattle.std.proofs.lemmas.Result.{IfOk-weaker}
use Rattle.kat_model.specs.Expressions.{expr_tree}
use Rattle.kat_model.specs.Stores.{modulus}
use Rattle.linear_forms.proofs.StoredValues.{modulus_above_one}
use Rattle.linear_forms.proofs.Forming.{is_cond_comparison}
use Rattle.linear_forms.proofs.Truths.{comparison_form_holds}
use Rattle.linear_forms.proofs.comparison.normal_cond.Goals as goal

pub returns-clause-form : goal.returns-clause-form
returns-clause-form c =
    IfOk-weaker c.comparison_of.result _ _ (λ b e. rw (e) (is_cond_comparison (modulus c.args.width) c.args.rel (expr_tree c.args.left.now) (expr_tree c.args.right.now) (modulus_above_one c.args.width))) c.comparison_of.ensures

pub returns-clause-kept : goal.returns-clause-kept
returns-clause-kept c =
    IfOk-weaker c.comparison_of.result _ _ (λ b e s i. rw (e) (comparison_form_holds c.args.width s c.args.rel (expr_tree c.args.left.now) (expr_tree c.args.right.now) i)) c.comparison_of.ensures
