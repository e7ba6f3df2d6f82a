-- Operations on diagrams, and their results.
use Rattle.std.specs.Prelude.{◌<◌, ℕ, Bool, not, ◌&&◌, ◌||◌, List, [], ◌∷◌, slice_set}
use Rattle.kat_model.specs.Steps.{Atom}
use Rattle.test_diagrams.specs.declared.diagrams.Operation.{Operation}
use Rattle.test_diagrams.specs.declared.diagrams.Operation.TheVariants.{And, Or, Not, Fix}
use Rattle.test_diagrams.specs.Functions.{DiagramsParts, value_of, IsDiagramId, IsDiagramOf}
use Rattle.test_diagrams.specs.Reduced.{IsReduced}

-- the operands are ids and tests of the collection
abbrev pub HasOperands : DiagramsParts → Operation → Type 0
HasOperands d (And a b) = IsDiagramId d a × IsDiagramId d b
HasOperands d (Or a b) = IsDiagramId d a × IsDiagramId d b
HasOperands d (Not a) = IsDiagramId d a
HasOperands d (Fix a test value) = IsDiagramId d a × (test < d.tests)

-- the function of an operation, from the functions of its operands
abbrev pub function_of : DiagramsParts → Operation → Atom → Bool
function_of d (And a b) atom = value_of d a atom && value_of d b atom
function_of d (Or a b) atom = value_of d a atom || value_of d b atom
function_of d (Not a) atom = not (value_of d a atom)
function_of d (Fix a test value) atom = value_of d a (slice_set atom test value)

-- the operands are valid, and the id is that of the operation's result
abbrev pub IsResult : DiagramsParts → Operation → ℕ → Type 0
IsResult d operation id = HasOperands d operation × IsDiagramOf d id (function_of d operation)

-- each entry of the table of results is correct
abbrev pub AreResults : DiagramsParts → List (Operation × ℕ) → Type 0
AreResults d [] = Unit {0}
AreResults d (entry ∷ entries) = IsResult d entry.0 entry.1 × AreResults d entries

-- the invariant of a collection and its table of results
pub record IsSound (d : DiagramsParts) (entries : List (Operation × ℕ)) : Type 0 where
  pub reduced : IsReduced d
  pub results : AreResults d entries
