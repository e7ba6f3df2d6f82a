-- Sets of atoms, and the diagrams that denote them.
use Rattle.std.specs.Prelude.{◌≡◌, ℕ, Bool, List, [], ◌∷◌, length, IsTrue}
use Rattle.kat_model.specs.Problems.{ProblemParts}
use Rattle.kat_model.specs.Steps.{Atom}
use Rattle.goal_forms.specs.TestTerms.{IsAllowed}
use Rattle.outline_rules.specs.StepFunctions.{StepDiagramsParts, IsStepDiagram}

abbrev pub AtomSet : Type 0
AtomSet = Atom → Bool

-- the id is the set of atoms before a step, for every atom after it
abbrev pub IsSetId : StepDiagramsParts → ℕ → AtomSet → Type 0
IsSetId d id X = IsStepDiagram d id (λ before after. X before)

-- the ids are the sets, in order
abbrev pub AreSetIds : StepDiagramsParts → List ℕ → List AtomSet → Type 0
AreSetIds d [] [] = Unit {0}
AreSetIds d [] (X ∷ Xs) = ⊥
AreSetIds d (id ∷ ids) [] = ⊥
AreSetIds d (id ∷ ids) (X ∷ Xs) = IsSetId d id X × AreSetIds d ids Xs

-- each atom of the set is allowed
abbrev pub IsAllowedSet : ProblemParts → AtomSet → Type 0
IsAllowedSet q X = (atom : Atom) → length atom ≡ q.tests → IsTrue (X atom) → IsAllowed q.hyps atom
