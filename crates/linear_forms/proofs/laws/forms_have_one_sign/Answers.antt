use Rattle.linear_forms.proofs.Negatives.{coefficients-negative, negative_negative, canonical-negative, lesser-canonical}
use Rattle.linear_forms.proofs.laws.forms_have_one_sign.Goals as goal

pub returns : goal.returns
returns c m f h i = record {
  of_negative = coefficients-negative m f i;
  twice = negative_negative m f h i;
  both = canonical-negative m f h i;
  lesser = lesser-canonical m f h i;
}
