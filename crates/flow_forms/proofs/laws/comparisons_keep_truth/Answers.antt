use Rattle.flow_forms.proofs.ComparisonValues.{holds-compared_numbers, holds-compared_signed, holds-same_literal}
use Rattle.flow_forms.proofs.laws.comparisons_keep_truth.Goals as goal

pub returns : goal.returns
returns c I s = record {
  of_numbers = holds-compared_numbers I s;
  of_signed = holds-compared_signed I s;
  of_opaque = holds-same_literal I s;
}
