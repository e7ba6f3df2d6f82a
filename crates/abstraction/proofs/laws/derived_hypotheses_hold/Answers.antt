use Rattle.abstraction.proofs.DerivedHypotheses.{derived_hold}
use Rattle.abstraction.proofs.laws.derived_hypotheses_hold.Goals as goal

pub returns : goal.returns
returns c = derived_hold
