use Rattle.gkat_front.proofs.GuardedExpressions.{kat_of_guarded}
use Rattle.gkat_front.proofs.laws.expressions_are_guarded.Goals as goal

pub returns : goal.returns
returns c e = kat_of_guarded e
