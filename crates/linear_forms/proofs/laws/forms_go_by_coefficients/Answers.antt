use Rattle.std.proofs.Common.{arith}
use Rattle.linear_forms.proofs.CoefficientSums.{coefficient-form_sum, coefficient-multiple, constant_of-form_sum, constant_of-multiple, same_form_by_coefficients}
use Rattle.linear_forms.proofs.laws.forms_go_by_coefficients.Goals as goal

pub returns : goal.returns
returns c m h = record {
  of_sum = λ f g. coefficient-form_sum m f g (omega (arith, h));
  of_multiple = coefficient-multiple m;
  constant_of_sum = constant_of-form_sum m;
  constant_of_multiple = constant_of-multiple m;
  one = same_form_by_coefficients m;
}
