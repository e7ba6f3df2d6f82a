use Rattle.partial_derivs.proofs.Tables.{AreRight-kept}
use Rattle.partial_derivs.proofs.laws.derivatives_stay_right.Goals as goal

pub returns : goal.returns
returns c table s t older newer trees functions right = AreRight-kept s t older newer table (record { trees = trees; functions = functions }) right
