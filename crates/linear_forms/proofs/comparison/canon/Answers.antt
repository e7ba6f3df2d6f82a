use Rattle.std.proofs.Common.{rules, arith, ◌≡◌}
use Rattle.std.proofs.lemmas.Result.{IfOk-weaker}
use Rattle.kat_model.specs.Stores.{modulus}
use Rattle.linear_forms.specs.NormalForms.{IsForm}
use Rattle.linear_forms.proofs.StoredValues.{modulus_above_one}
use Rattle.linear_forms.proofs.Forming.{is_form_canonical}
use Rattle.linear_forms.proofs.comparison.canon.Goals as goal

pub returns-clause-form : goal.returns-clause-form
returns-clause-form c i =
    let e : c.in_ok-form.form ≡ c.args.form.now = search rules in
    let h = modulus_above_one c.args.width in
    let k : IsForm (modulus c.args.width) c.in_ok-form.form = rw (e) i in
    IfOk-weaker c.canonical.result _ _ (λ f q. rw (q) (is_form_canonical (modulus c.args.width) c.in_ok-form.form (omega (arith, h)) k)) c.canonical.ensures
