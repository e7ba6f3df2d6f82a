use Rattle.abstraction.proofs.DerivedHypotheses.{derived_hold}
use Rattle.abstraction.proofs.Agreement.{same_agrees}
use Rattle.abstraction.proofs.laws.same_sides_agree.Goals as goal

pub returns : goal.returns
returns c f a range e = same_agrees f a range e (derived_hold f a range e)
