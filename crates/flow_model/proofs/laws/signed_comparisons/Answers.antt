use Rattle.flow_model.proofs.Signed.{biased_less}
use Rattle.flow_model.proofs.laws.signed_comparisons.Goals as goal

pub returns : goal.returns
returns c = biased_less
