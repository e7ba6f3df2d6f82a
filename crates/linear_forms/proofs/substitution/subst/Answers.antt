use Rattle.std.proofs.lemmas.Result.{IfOk-weaker}
use Rattle.kat_model.specs.Stores.{modulus}
use Rattle.linear_forms.proofs.StoredValues.{modulus_above_one}
use Rattle.linear_forms.proofs.Forming.{is_cond_substituted}
use Rattle.linear_forms.proofs.Truths.{substituted_holds}
use Rattle.linear_forms.proofs.substitution.subst.Goals as goal

pub returns-clause-form : goal.returns-clause-form
returns-clause-form c i =
    IfOk-weaker c.substitute_in.result _ _ (λ b e. rw (e) (is_cond_substituted (modulus c.args.width) c.args.var c.args.by.now c.args.atomic.now (modulus_above_one c.args.width) i)) c.substitute_in.ensures

pub returns-clause-kept : goal.returns-clause-kept
returns-clause-kept c =
    IfOk-weaker c.substitute_in.result _ _ (λ b e s l. rw (e) (substituted_holds (modulus c.args.width) s c.args.var c.args.by.now c.args.atomic.now (modulus_above_one c.args.width) l)) c.substitute_in.ensures
