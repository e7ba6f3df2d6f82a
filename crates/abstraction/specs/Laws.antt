-- The meaning of an abstraction over stores.
use Rattle.std.specs.Prelude.{◌≡◌, ◌≤◌, ℕ, length, slice_get, Some}
use Rattle.kat_model.specs.Trees.{Term}
use Rattle.kat_model.specs.Stores.{Store}
use Rattle.kat_model.specs.Relations.{Same}
use Rattle.while_lang.specs.Files.{FileParts}
use Rattle.while_lang.specs.Concrete.{IsStoreOf, IsConcrete, Agrees}
use Rattle.abstraction.specs.Abstracts.{AbstractParts}
use Rattle.abstraction.specs.StoreFrames.{Moves}
use Rattle.abstraction.specs.Readings.{Reading, KeepsStated, GoalHoldsBy}

-- no hypothesis after the stated ones relates two stores of the file
abbrev pub DerivedHold : FileParts → AbstractParts → Type 0
DerivedHold f a =
    (k : ℕ) (h : Term) → length f.hyps ≤ k → slice_get a.problem.hyps k ≡ Some h
    → (s t : Store) → IsStoreOf f s → IsStoreOf f t → Moves f a h s t → ⊥

-- if both sides denote one relation in each table that satisfies the hypotheses, the goal of a concrete file holds for
-- all its stores
abbrev pub AgreesWhereSame : FileParts → AbstractParts → Type 0
AgreesWhereSame f a = IsConcrete f → Same a.problem → Agrees f

-- if both sides denote one relation in each table that satisfies the hypotheses, the goal holds for all stores of the file
-- under every reading of its declared tests and actions that keeps the stated hypotheses
abbrev pub HoldsByReadings : FileParts → AbstractParts → Type 0
HoldsByReadings f a = (r : Reading) → KeepsStated f a r → Same a.problem → GoalHoldsBy f a r f.goal
