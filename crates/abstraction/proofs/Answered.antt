-- The meaning of a returned abstraction over stores.
use Rattle.std.proofs.Common.{Result, Ok, Err, IfOk}
use Rattle.while_lang.specs.Files.{FileParts}
use Rattle.abstraction.specs.declared.fault.AbstractFault.{AbstractFault}
use Rattle.abstraction.specs.Abstracts.{AbstractParts, HasNumbersInRange, IsAbstraction}
use Rattle.abstraction.specs.Laws.{DerivedHold, AgreesWhereSame}
use Rattle.abstraction.proofs.DerivedHypotheses.{derived_hold}
use Rattle.abstraction.proofs.Agreement.{same_agrees}

pub answered_derived : (f : FileParts) → HasNumbersInRange f → (r : Result AbstractParts AbstractFault) → IsAbstraction f r → IfOk r (DerivedHold f)
answered_derived f range (Ok a) e = derived_hold f a range e
answered_derived f range (Err fault) e = tt

pub answered_agrees : (f : FileParts) → HasNumbersInRange f → (r : Result AbstractParts AbstractFault) → IsAbstraction f r → IfOk r (AgreesWhereSame f)
answered_agrees f range (Ok a) e = same_agrees f a range e (derived_hold f a range e)
answered_agrees f range (Err fault) e = tt
