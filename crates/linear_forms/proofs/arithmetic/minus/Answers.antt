use Rattle.std.proofs.Common.{rules, arith, ◌≡◌}
use Rattle.std.proofs.lemmas.Result.{IfOk-weaker}
use Rattle.kat_model.specs.Stores.{modulus}
use Rattle.linear_forms.specs.NormalForms.{IsForm}
use Rattle.linear_forms.proofs.StoredValues.{modulus_above_one}
use Rattle.linear_forms.proofs.Forming.{is_form_difference}
use Rattle.linear_forms.proofs.arithmetic.minus.Goals as goal

pub returns-clause-form : goal.returns-clause-form
returns-clause-form c i j =
    let e : c.in_ok-left.left ≡ c.args.left.now = search rules in
    let d : c.in_ok-right.right ≡ c.args.right.now = search rules in
    let h = modulus_above_one c.args.width in
    let k : IsForm (modulus c.args.width) c.in_ok-left.left = rw (e) i in
    let l : IsForm (modulus c.args.width) c.in_ok-right.right = rw (d) j in
    IfOk-weaker c.difference.result _ _ (λ f q. rw (q) (is_form_difference (modulus c.args.width) c.in_ok-left.left c.in_ok-right.right (omega (arith, h)) k l)) c.difference.ensures
