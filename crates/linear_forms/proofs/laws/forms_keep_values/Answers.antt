use Rattle.std.proofs.Common.{arith}
use Rattle.linear_forms.proofs.Polynomials.{form_value-form_sum, form_value-form_difference, form_value-multiple, form_value-form_product}
use Rattle.linear_forms.proofs.Truths.{form_value_below, equal-form_difference, zero_value-canonical, apart-form_difference}
use Rattle.linear_forms.proofs.laws.forms_keep_values.Goals as goal

pub returns : goal.returns
returns c m s h = record {
  below = λ f. form_value_below m s f (omega (arith, h));
  of_sum = form_value-form_sum m s;
  of_difference = λ f g. form_value-form_difference m s f g (omega (arith, h));
  of_multiple = form_value-multiple m s;
  of_product = form_value-form_product m s;
  equal = λ f g. equal-form_difference m s f g h;
  apart = λ f g c. apart-form_difference m s f g c h;
  zero = λ f. zero_value-canonical m s f h;
}
