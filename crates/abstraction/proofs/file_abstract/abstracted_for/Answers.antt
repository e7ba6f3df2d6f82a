use Rattle.abstraction.proofs.Answered.{answered_derived, answered_agrees}
use Rattle.abstraction.proofs.file_abstract.abstracted_for.Goals as goal

pub returns-clause-derived : goal.returns-clause-derived
returns-clause-derived c = answered_derived _ c.requires.numbers _ c.make_abstract.ensures

pub returns-clause-agrees : goal.returns-clause-agrees
returns-clause-agrees c = answered_agrees _ c.requires.numbers _ c.make_abstract.ensures
