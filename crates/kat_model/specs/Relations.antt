-- The meaning of a term: the relation on states that it denotes in a relational model (Kozen 1997).
use Rattle.std.specs.Prelude.{◌≡◌, ℕ, ◌<◌, ◌⊎◌, ◌↔◌, List, [], ◌∷◌, length, slice_index_or, IsTrue}
use Rattle.kat_model.specs.Trees.{Term, zero, one, test, act, sum, product, star}
use Rattle.kat_model.specs.Members.{Has}
use Rattle.kat_model.specs.Problems.{ProblemParts}
use Rattle.kat_model.specs.Steps.{Atom, truth}

-- A Kripke frame (Kozen and Smith 1996): its states, the truth values at each, and the pairs of states
-- that each action relates.
pub record Frame (S : Type 0) : Type 1 where
  pub IsState : S → Type 0
  pub atom : S → Atom
  pub Acts : ℕ → S → S → Type 0

-- the relation leads from i to j along these states; the last of them is j
abbrev pub Along : {S : Type 0} → (S → Type 0) → (S → S → Type 0) → S → List S → S → Type 0
Along IsState R i [] j = i ≡ j
Along IsState R i (k ∷ ks) j = IsState k × R i k × Along IsState R k ks j

-- the term relates i to j in the frame
abbrev pub RelatesIn : {S : Type 0} → Frame S → Term → S → S → Type 0
RelatesIn frame zero i j = ⊥
RelatesIn frame one i j = i ≡ j
RelatesIn frame (test b) i j = (i ≡ j) × IsTrue (truth b (frame.atom i))
RelatesIn frame (act a) i j = frame.Acts a i j
RelatesIn frame (sum e f) i j = RelatesIn frame e i j ⊎ RelatesIn frame f i j
RelatesIn {S} frame (product e f) i j = (k : S) × frame.IsState k × RelatesIn frame e i k × RelatesIn frame f k j
RelatesIn {S} frame (star e) i j = (ks : List S) × Along frame.IsState (RelatesIn frame e) i ks j

-- some term of a list relates the states
abbrev pub SomeRelates : {S : Type 0} → Frame S → List Term → S → S → Type 0
SomeRelates frame es i j = (e : Term) × Has es e × RelatesIn frame e i j

-- the terms of a list relate the states in turn, over a chain of states in between
abbrev pub RelateInTurn : {S : Type 0} → Frame S → List Term → S → S → Type 0
RelateInTurn frame [] i j = i ≡ j
RelateInTurn {S} frame (e ∷ es) i j = (k : S) × frame.IsState k × RelatesIn frame e i k × RelateInTurn frame es k j

-- one action, from a state to a state
pub record Step : Type 0 where
  pub from : ℕ
  pub act : ℕ
  pub to : ℕ

-- a finite table: states numbered from 0, the truth values at each, and the moves between them
pub record Table : Type 0 where
  pub states : ℕ
  pub truths : List Atom
  pub moves : List Step

-- the truth values at a state
abbrev pub atom_at : Table → ℕ → Atom
atom_at t i = slice_index_or t.truths i []

-- a table for these numbers of tests and actions
pub record IsTable (tests actions : ℕ) (t : Table) : Type 0 where
  pub rows : length t.truths ≡ t.states
  pub wide : (i : ℕ) → i < t.states → length (atom_at t i) ≡ tests
  pub moves : (m : Step) → Has t.moves m → (m.from < t.states) × (m.act < actions) × (m.to < t.states)

-- a table as a frame
abbrev pub frame_of : Table → Frame ℕ
frame_of t =
    record {
      IsState = λ i. i < t.states;
      atom = λ i. atom_at t i;
      Acts = λ a i j. Has t.moves (record { from = i; act = a; to = j });
    }

-- the term relates state i of the table to state j
abbrev pub Relates : Table → Term → ℕ → ℕ → Type 0
Relates t e i j = RelatesIn (frame_of t) e i j

-- no hypothesis relates any state to any state
abbrev pub Keeps : Table → List Term → Type 0
Keeps t hyps = (h : Term) → Has hyps h → (i j : ℕ) → i < t.states → j < t.states → Relates t h i j → ⊥

-- both sides denote one relation in each table that keeps the hypotheses
abbrev pub Same : ProblemParts → Type 0
Same p =
    (t : Table) → IsTable p.tests p.actions t → Keeps t p.hyps → (i j : ℕ) → i < t.states → j < t.states → Relates t p.left i j ↔ Relates t p.right i j
