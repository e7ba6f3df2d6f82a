use Rattle.linear_forms.proofs.Settled.{settled_comparison, settled_substituted}
use Rattle.linear_forms.proofs.Untouched.{substituted_untouched}
use Rattle.linear_forms.proofs.laws.comparisons_stay_settled.Goals as goal

pub returns : goal.returns
returns c m h = record {
  of_comparison = λ rel e f. settled_comparison m rel e f h;
  of_substitution = λ j by a i. settled_substituted m j by a h i;
  untouched = substituted_untouched m;
}
