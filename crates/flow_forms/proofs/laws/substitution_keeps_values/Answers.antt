use Rattle.flow_forms.proofs.SubstitutedValues.{value-substituted, holds-comparison_after}
use Rattle.flow_forms.proofs.laws.substitution_keeps_values.Goals as goal

pub returns : goal.returns
returns c I s sorts env t h = record {
  of_form = value-substituted I s sorts env t h;
  of_comparison = holds-comparison_after I s sorts env t h;
}
