-- The pairs of an ended walk, with those of the same sets merged into one.
use Rattle.std.specs.Prelude.{◌≡◌, List, ◌∷◌, length, IsTrue}
use Rattle.kat_model.specs.Trees.{TestTree}
use Rattle.kat_model.specs.Members.{Has}
use Rattle.kat_model.specs.Steps.{Atom, truth}
use Rattle.kat_model.specs.Problems.{ProblemParts}
use Rattle.kat_model.specs.TestedPairs.{TestedPair}
use Rattle.walk_under.specs.TestedWalks.{TestedEntry, closed_sides}

-- The pairs begin with the closed sides. Each pair is true only at atoms of entries with its sets. At each atom of an
-- entry, a pair with its sets is true; for the closed sides, this is the first pair.
pub record AreMergedPairs (q : ProblemParts) (es : List TestedEntry) (pairs : List TestedPair) : Type 0 where
  pub test : TestTree
  pub rest : List TestedPair
  pub first : pairs ≡ record { sets = closed_sides q; test = test } ∷ rest
  pub whole : (e : TestedEntry) → Has es e → e.pair ≡ closed_sides q → (atom : Atom) → length atom ≡ q.tests → IsTrue (e.test atom) → IsTrue (truth test atom)
  pub there : (e : TestedEntry) → Has es e → (atom : Atom) → length atom ≡ q.tests → IsTrue (e.test atom) → (p : TestedPair) × Has pairs p × (p.sets ≡ e.pair) × IsTrue (truth p.test atom)
  pub back : (p : TestedPair) → Has pairs p → (atom : Atom) → length atom ≡ q.tests → IsTrue (truth p.test atom) → (e : TestedEntry) × Has es e × (e.pair ≡ p.sets) × IsTrue (e.test atom)
