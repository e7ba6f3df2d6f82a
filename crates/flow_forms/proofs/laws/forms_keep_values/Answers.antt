use Rattle.std.proofs.Common.{arith, ◌<◌}
use Rattle.kat_model.specs.Stores.{modulus}
use Rattle.linear_forms.proofs.StoredValues.{modulus_above_one}
use Rattle.flow_forms.proofs.Polynomials.{polynomial-cell_form, value-form_sum, value-form_difference, value-multiple, value-form_product}
use Rattle.flow_forms.proofs.ConvertedValues.{value-form_conversion}
use Rattle.flow_forms.proofs.laws.forms_keep_values.Goals as goal

pub returns : goal.returns
returns c I s w =
    let above = modulus_above_one w in
    let positive : 0 < modulus w = omega (arith, above) in
    record {
      of_sum = value-form_sum I s (modulus w);
      of_difference = λ f g. value-form_difference I s (modulus w) f g positive;
      of_multiple = value-multiple I s (modulus w);
      of_product = value-form_product I s (modulus w);
      of_conversion = λ signed from. value-form_conversion I s signed from w;
      of_cell = polynomial-cell_form I s;
    }
