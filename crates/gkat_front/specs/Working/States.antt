-- The state of the reader in the terms of the specification.
use Rattle.std.specs.Prelude.{Option, Some, None}
use Rattle.gkat_front.specs.declared.gkat.Gkat.{Gkat}
use Rattle.gkat_front.specs.Expressions.{GkatTree, gkat_tree}
use Rattle.gkat_front.specs.Files.{GkatState}
use Rattle.gkat_front.specs.declared.reader.GkatReader.{GkatReader}

abbrev pub sides_of : Option (Gkat × Gkat) → Option (GkatTree × GkatTree)
sides_of None = None
sides_of (Some x) = Some (gkat_tree x.0, gkat_tree x.1)

abbrev pub state_of : GkatReader → GkatState
state_of r = record { world = r.scope; tests = r.tests; actions = r.actions; sides = sides_of r.sides }
