-- The functions of two atoms, before a step and after it, that the diagrams of a collection denote.
use Rattle.std.specs.Prelude.{◌≡◌, ◌+◌, ◌<◌, ◌^◌, ℕ, Bool, false, if◌then◌else◌, List, length, slice_index_or, IsTrue}
use Rattle.kat_model.specs.Steps.{Atom}
use Rattle.test_diagrams.specs.Functions.{DiagramsParts, value_of, IsDiagramId, KeepsFunctions}
use Rattle.test_diagrams.specs.Reduced.{IsReduced}
use Rattle.outline_rules.specs.declared.moments.Moment.{Moment}
use Rattle.outline_rules.specs.Interleaved.{interleaved, atom_at_moment}

-- diagrams over two copies of `tests` tests
pub record StepDiagramsParts : Type 0 where
  pub tests : ℕ
  pub diagrams : DiagramsParts

-- the diagrams are reduced, and over twice as many tests; the number of tests is below 2^63
pub record AreStepDiagrams (d : StepDiagramsParts) : Type 0 where
  pub small : d.tests < 2 ^ 63
  pub twice : d.diagrams.tests ≡ d.tests + d.tests
  pub reduced : IsReduced d.diagrams

-- the value of an id at an atom before a step and an atom after it
abbrev pub step_value : StepDiagramsParts → ℕ → Atom → Atom → Bool
step_value d id before after = value_of d.diagrams id (interleaved before after)

-- the number is an id of the collection
abbrev pub IsStepId : StepDiagramsParts → ℕ → Type 0
IsStepId d id = IsDiagramId d.diagrams id

-- the id is a diagram of the function
pub record IsStepDiagram (d : StepDiagramsParts) (id : ℕ) (function : Atom → Atom → Bool) : Type 0 where
  pub in_range : IsStepId d id
  pub value : (before after : Atom) → length before ≡ d.tests → length after ≡ d.tests → step_value d id before after ≡ function before after

-- older ids stay valid and keep their functions, and the number of tests is unchanged
pub record KeepsSteps (old new : StepDiagramsParts) : Type 0 where
  pub tests : new.tests ≡ old.tests
  pub functions : KeepsFunctions old.diagrams new.diagrams

-- the value of `high` if the test is true at the moment, else that of `low`
abbrev pub choice_by : Moment → ℕ → (Atom → Atom → Bool) → (Atom → Atom → Bool) → Atom → Atom → Bool
choice_by moment test low high before after =
    if slice_index_or (atom_at_moment moment before after) test false then high before after else low before after

-- the second function is true whenever the first is
abbrev pub Entails : StepDiagramsParts → ℕ → ℕ → Type 0
Entails d a b = (before after : Atom) → length before ≡ d.tests → length after ≡ d.tests → IsTrue (step_value d a before after) → IsTrue (step_value d b before after)

-- The image of a relation: true, for every atom after it, exactly at the atoms that the relation reaches from some
-- atom.
pub record IsImage (old : StepDiagramsParts) (relation : ℕ) (new : StepDiagramsParts) (image : ℕ) : Type 0 where
  pub in_range : IsStepId new image
  pub reached : (from to after : Atom) → length from ≡ old.tests → length to ≡ old.tests → length after ≡ old.tests → IsTrue (step_value old relation from to) → IsTrue (step_value new image to after)
  pub source : (to after : Atom) → length to ≡ old.tests → length after ≡ old.tests → IsTrue (step_value new image to after) → (from : Atom) × (length from ≡ old.tests) × IsTrue (step_value old relation from to)
