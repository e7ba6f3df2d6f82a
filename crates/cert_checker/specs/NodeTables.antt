-- The tables of the checker: nodes of tests and terms by their numbers, those of the certificate first.
use Rattle.std.specs.Prelude.{◌≡◌, ◌⊎◌, ◌<◌, ℕ, Bool, List, [], ◌∷◌, ◌++◌, length}
use Rattle.kat_model.specs.Trees.{TestTree, Term}
use Rattle.kat_model.specs.Members.{Has}
use Rattle.kat_model.specs.Steps.{Atom, truth}
use Rattle.term_nodes.specs.declared.TestNode.{TestNode}
use Rattle.term_nodes.specs.declared.TestNode.TheVariants.{False, True, Prim, Not, And, Or}
use Rattle.term_nodes.specs.declared.TermNode.{TermNode}
use Rattle.term_nodes.specs.Nodes.{IsTestOver, IsOver}
use Rattle.term_nodes.specs.NodeLists.{NodeParts, AreNodes}
use Rattle.term_nodes.specs.NodeTrees.{test_tree_at, tree_at}
use Rattle.term_nodes.specs.Growth.{Grows}
use Rattle.certificate.specs.Certs.{CertParts}

-- nodes of tests and terms, and the number of primitive tests
pub record TableParts : Type 0 where
  pub width : ℕ
  pub tests : List (TestNode ℕ)
  pub terms : List (TermNode ℕ ℕ)

-- the nodes
abbrev pub nodes_in : TableParts → NodeParts
nodes_in t = record { tests = t.tests; terms = t.terms }

-- the primitive tests among the nodes are below n
abbrev pub ArePrimsBelow : ℕ → List (TestNode ℕ) → Type 0
ArePrimsBelow n tests = (k : ℕ) → Has tests (Prim k) → k < n

-- the nodes keep the rules of lists of nodes, and their primitive tests are in range
pub record AreTables (t : TableParts) : Type 0 where
  pub rules : AreNodes (nodes_in t)
  pub within : ArePrimsBelow t.width t.tests

-- the nodes of a certificate
abbrev pub tables_of : ℕ → CertParts → TableParts
tables_of width c = record { width = width; tests = c.test_nodes; terms = c.term_nodes }

-- nodes were appended; the older ones keep their numbers and trees; both tables are sound
pub record TablesGrow (old new : TableParts) : Type 0 where
  pub was : AreTables old
  pub sound : AreTables new
  pub width : new.width ≡ old.width
  pub nodes : Grows (nodes_in old) (nodes_in new)

-- only tests were added
pub record TestsGrow (old new : TableParts) : Type 0 where
  pub grows : TablesGrow old new
  pub terms : new.terms ≡ old.terms

-- the node is the only possible addition
abbrev pub AddsTest : TableParts → TableParts → TestNode ℕ → Type 0
AddsTest old new n = (new ≡ old) ⊎ (new ≡ record old { tests = old.tests ++ n ∷ [] })

abbrev pub AddsTerm : TableParts → TableParts → TermNode ℕ ℕ → Type 0
AddsTerm old new n = (new ≡ old) ⊎ (new ≡ record old { terms = old.terms ++ n ∷ [] })

-- the tree of a test, and of a term, by its number
abbrev pub test_at : TableParts → ℕ → TestTree
test_at t k = test_tree_at (nodes_in t) k

abbrev pub term_at : TableParts → ℕ → Term
term_at t k = tree_at (nodes_in t) k

-- whether the atom satisfies the test
abbrev pub holds_at : TableParts → ℕ → Atom → Bool
holds_at t k atom = truth (test_at t k) atom

-- the number is a test of the tables; the number is a term of the tables
abbrev pub IsTest : TableParts → ℕ → Type 0
IsTest t k = k < length t.tests

abbrev pub IsTerm : TableParts → ℕ → Type 0
IsTerm t k = k < length t.terms

-- the number is a test with these values, one for each atom
abbrev pub HasValues : TableParts → (Atom → Bool) → ℕ → Type 0
HasValues t values k = IsTest t k × ((atom : Atom) → holds_at t k atom ≡ values atom)

-- a primitive test is in range
abbrev pub IsWithin : ℕ → TestNode ℕ → Type 0
IsWithin width False = Unit {0}
IsWithin width True = Unit {0}
IsWithin width (Prim k) = k < width
IsWithin width (Not x) = Unit {0}
IsWithin width (And x y) = Unit {0}
IsWithin width (Or x y) = Unit {0}

-- the node names only tests of the tables, and its primitive test is in range
abbrev pub MayBeTest : TableParts → TestNode ℕ → Type 0
MayBeTest t n = IsTestOver (length t.tests) n × IsWithin t.width n

-- the node names only tests and terms of the tables
abbrev pub MayBeTerm : TableParts → TermNode ℕ ℕ → Type 0
MayBeTerm t n = IsOver (length t.tests) (length t.terms) n
