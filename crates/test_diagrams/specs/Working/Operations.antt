-- Operations on diagrams and their results, as only the code and the proofs need them.
use Rattle.std.specs.Prelude.{◌≡◌, ◌<◌, ◌≤◌, ◌+◌, ℕ, min, Bool, false, if◌then◌else◌, slice_index_or, slice_set}
use Rattle.kat_model.specs.Steps.{Atom}
use Rattle.test_diagrams.specs.declared.diagrams.Operation.{Operation}
use Rattle.test_diagrams.specs.declared.diagrams.Operation.TheVariants.{And, Or, Not, Fix}
use Rattle.test_diagrams.specs.Functions.{DiagramsParts, value_of, IsDiagramId, IsAtomOf}
use Rattle.test_diagrams.specs.Reduced.{level_of}
use Rattle.test_diagrams.specs.Operations.{HasOperands, function_of}

-- the function that chooses between two diagrams by a test
abbrev pub choice_of : DiagramsParts → ℕ → ℕ → ℕ → Atom → Bool
choice_of d test low high atom = if slice_index_or atom test false then value_of d high atom else value_of d low atom

-- the least top test of the operands, or the number of tests if they are constants
abbrev pub top_of : DiagramsParts → Operation → ℕ
top_of d (And a b) = min (level_of d a) (level_of d b)
top_of d (Or a b) = min (level_of d a) (level_of d b)
top_of d (Not a) = level_of d a
top_of d (Fix a test value) = level_of d a

-- the operands have a top test; for `Fix` it precedes the test to fix
abbrev pub IsOpen : DiagramsParts → Operation → Type 0
IsOpen d (And a b) = top_of d (And a b) < d.tests
IsOpen d (Or a b) = top_of d (Or a b) < d.tests
IsOpen d (Not a) = top_of d (Not a) < d.tests
IsOpen d (Fix a test value) = top_of d (Fix a test value) < test

-- a measure that decreases from operands to their parts
abbrev pub weight_of : Operation → ℕ
weight_of (And a b) = a + b
weight_of (Or a b) = a + b
weight_of (Not a) = a
weight_of (Fix a test value) = a

-- the cofactor of a diagram for a value of a test at its top or above it
pub record IsPart (d : DiagramsParts) (id test : ℕ) (value : Bool) (part : ℕ) : Type 0 where
  pub in_range : IsDiagramId d part
  pub function : (atom : Atom) → IsAtomOf d atom → value_of d part atom ≡ value_of d id (slice_set atom test value)
  pub below : test < level_of d part
  pub no_later : part ≤ id
  pub earlier : level_of d id ≡ test → part < id

-- the cofactor of an operation for a value of its top test
pub record IsCofactor (d : DiagramsParts) (operation : Operation) (test : ℕ) (value : Bool) (part : Operation) : Type 0 where
  pub operands : HasOperands d part
  pub function : (atom : Atom) → IsAtomOf d atom → function_of d part atom ≡ function_of d operation (slice_set atom test value)
  pub independent : (other : ℕ) → other ≤ test → (atom : Atom) → IsAtomOf d atom → (v : Bool) → function_of d part (slice_set atom other v) ≡ function_of d part atom
  pub lighter : weight_of part < weight_of operation
