-- The table of a guarded string, and the strings that refute a problem.
use Rattle.std.specs.Prelude.{◌≡◌, ◌⊎◌, ◌<◌, ◌≤◌, ℕ, suc, List, [], ◌∷◌, length, map}
use Rattle.kat_model.specs.Trees.{Term, term_height}
use Rattle.kat_model.specs.Members.{Has}
use Rattle.kat_model.specs.Problems.{ProblemParts, HasTestsBelow}
use Rattle.kat_model.specs.Relations.{Step, Table, atom_at, Relates, Keeps}
use Rattle.kat_model.specs.Strings.{Move, GuardedString, IsString}

-- the steps from each position to the next, from position k on
abbrev pub steps_from : ℕ → List Move → List Step
steps_from k [] = []
steps_from k (m ∷ ms) = record { from = k; act = m.act; to = suc k } ∷ steps_from (suc k) ms

-- the positions of a string as states
abbrev pub table_of : GuardedString → Table
table_of x = record { states = suc (length x.rest); truths = x.first ∷ map (λ m. m.atom) x.rest; moves = steps_from 0 x.rest }

-- the term relates the first position to the last
abbrev pub RelatesEnds : GuardedString → Term → Type 0
RelatesEnds x e = Relates (table_of x) e 0 (length x.rest)

-- exactly one of two facts holds
abbrev pub ExactlyOne : Type 0 → Type 0 → Type 0
ExactlyOne A B = (A × (B → ⊥)) ⊎ ((A → ⊥) × B)

-- the string shows that the sides of the question are not the same
pub record Refutes (q : ProblemParts) (x : GuardedString) : Type 0 where
  pub fits : IsString q.tests q.actions x
  pub keeps : Keeps (table_of x) q.hyps
  pub differs : ExactlyOne (RelatesEnds x q.left) (RelatesEnds x q.right)

-- a table in which terms can be evaluated: one list of truth values for each state, and moves between states
pub record IsWhole (t : Table) : Type 0 where
  pub rows : length t.truths ≡ t.states
  pub moves : (m : Step) → Has t.moves m → (m.from < t.states) × (m.to < t.states)

-- the height of terms and the number of states that a bench has room for
pub record Room : Type 0 where
  pub depth : ℕ
  pub states : ℕ

-- the term can be evaluated in the table on a bench with this room
pub record MayBeQueried (room : Room) (t : Table) (e : Term) : Type 0 where
  pub whole : IsWhole t
  pub states : t.states ≤ room.states
  pub height : term_height e ≤ room.depth
  pub tests : (i : ℕ) → i < t.states → HasTestsBelow (length (atom_at t i)) e
