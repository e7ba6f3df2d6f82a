-- Goals whose problem has two sides that denote the same relation.
use Rattle.std.specs.Prelude.{◌≡◌, Ok}
use Rattle.kat_model.specs.Relations.{Same}
use Rattle.while_lang.specs.Files.{FileParts}
use Rattle.abstraction.specs.Abstracts.{AbstractParts, abstract_of}

-- the file has an abstraction, and the two sides of its problem are the same
abbrev pub GoalIsSame : FileParts → Type 0
GoalIsSame f = (a : AbstractParts) × (abstract_of f ≡ Ok a) × Same a.problem
