-- The meaning of the sides of a goal in a table.
use Rattle.std.specs.Prelude.{ℕ, ◌<◌, ◌↔◌, IsTrue}
use Rattle.kat_model.specs.Trees.{TestTree, Term}
use Rattle.kat_model.specs.Steps.{truth}
use Rattle.kat_model.specs.Relations.{Table, atom_at, Relates}
use Rattle.goal_forms.specs.Sides.{SideTrees, below_sides, triple_sides}

-- both sides denote one relation in the table
abbrev pub DenoteOne : Table → SideTrees → Type 0
DenoteOne t s = (i j : ℕ) → i < t.states → j < t.states → Relates t s.left i j ↔ Relates t s.right i j

-- the small term relates only what the large term relates
abbrev pub IsBelow : Table → Term → Term → Type 0
IsBelow t small large = (i j : ℕ) → i < t.states → j < t.states → Relates t small i j → Relates t large i j

-- the test is true at the state
abbrev pub TrueAt : Table → TestTree → ℕ → Type 0
TrueAt t b i = IsTrue (truth b (atom_at t i))

-- the body leads from states in which pre is true only to states in which post is true
abbrev pub HoldsTriple : Table → TestTree → Term → TestTree → Type 0
HoldsTriple t pre body post = (i j : ℕ) → i < t.states → j < t.states → TrueAt t pre i → Relates t body i j → TrueAt t post j

-- the meaning of the sides of each kind of goal
pub record GoalsMean : Type 0 where
  pub below : (t : Table) (small large : Term) → DenoteOne t (below_sides small large) ↔ IsBelow t small large
  pub triple : (t : Table) (pre : TestTree) (body : Term) (post : TestTree) → DenoteOne t (triple_sides pre body post) ↔ HoldsTriple t pre body post
