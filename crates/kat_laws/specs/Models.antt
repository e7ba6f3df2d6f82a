-- Relational models whose states are natural numbers, finitely or infinitely many (Kozen and Smith 1996), and the terms
-- that denote one relation in all of them.
use Rattle.std.specs.Prelude.{◌≡◌, ◌<◌, ◌↔◌, ℕ, Bool, IsTrue, length}
use Rattle.kat_model.specs.Members.{Has}
use Rattle.kat_model.specs.Trees.{Term}
use Rattle.kat_model.specs.Steps.{Atom}
use Rattle.kat_model.specs.Problems.{ProblemParts}
use Rattle.kat_model.specs.Relations.{Frame, RelatesIn}

-- A relational model: which natural numbers are states, the truth values at each state, and the pairs of states that
-- each action relates. Each is decidable; the states may be finitely or infinitely many.
pub record Model : Type 0 where
  pub is_state : ℕ → Bool
  pub atom : ℕ → Atom
  pub relates : ℕ → ℕ → ℕ → Bool

-- a model as a frame
abbrev pub frame_of_model : Model → Frame ℕ
frame_of_model m = record { IsState = λ i. IsTrue (m.is_state i); atom = m.atom; Acts = λ a i j. IsTrue (m.relates a i j) }

-- a model of the question: each state assigns its tests, only its actions relate states, and no hypothesis relates any
-- state to any state
pub record IsModel (q : ProblemParts) (m : Model) : Type 0 where
  pub wide : (i : ℕ) → IsTrue (m.is_state i) → length (m.atom i) ≡ q.tests
  pub actions : (a i j : ℕ) → IsTrue (m.relates a i j) → a < q.actions
  pub keeps : (h : Term) → Has q.hyps h → (i j : ℕ) → IsTrue (m.is_state i) → IsTrue (m.is_state j) → RelatesIn (frame_of_model m) h i j → ⊥

-- both sides denote one relation in each model of the question
abbrev pub SameInModels : ProblemParts → Type 0
SameInModels q =
    (m : Model) → IsModel q m → (i j : ℕ) → IsTrue (m.is_state i) → IsTrue (m.is_state j)
    → RelatesIn (frame_of_model m) q.left i j ↔ RelatesIn (frame_of_model m) q.right i j
