-- Cases on tests: some tests are decided, and what is then known of a test.
use Rattle.std.specs.Prelude.{◌≡◌, ◌+◌, ℕ, Bool, true, false, not, List, [], ◌∷◌, slice_get, slice_index_or, replicate, take, Option, Some, None}
use Rattle.kat_model.specs.Members.{Has, IsSubset}
use Rattle.kat_model.specs.Steps.{Atom}
use Rattle.term_nodes.specs.declared.TestNode.{TestNode}
use Rattle.term_nodes.specs.declared.TestNode.TheVariants.{False, True, Prim, Not, And, Or}
use Rattle.term_nodes.specs.Nodes.{test_parts}
use Rattle.cert_checker.specs.NodeTables.{TableParts, IsTest, holds_at}
use Rattle.cert_checker.specs.declared.known.Truth.{Truth}
use Rattle.cert_checker.specs.declared.known.Truth.TheVariants.{Known, Undecided}

-- no test is decided
abbrev pub undecided : ℕ → List (Option Bool)
undecided n = replicate n None

-- the atom extends the decided tests: it has their values
abbrev pub Extends : List (Option Bool) → Atom → Type 0
Extends [] [] = Unit {0}
Extends [] (b ∷ bs) = ⊥
Extends (d ∷ ds) [] = ⊥
Extends (None ∷ ds) (b ∷ bs) = Extends ds bs
Extends (Some c ∷ ds) (b ∷ bs) = (c ≡ b) × Extends ds bs

-- the test is not decided
abbrev pub IsOpen : List (Option Bool) → ℕ → Type 0
IsOpen decided k = slice_get decided k ≡ Some None

-- a known value is the value at each atom that extends the decided tests, and an undecided test that it depends on is
-- open; the numbers of the primitive tests begin at `first`
abbrev pub IsKnown : ℕ → List (Option Bool) → (Atom → Bool) → Truth → Type 0
IsKnown first decided value (Known b) = (atom : Atom) → Extends decided atom → value atom ≡ b
IsKnown first decided value (Undecided j) = (k : ℕ) × (j ≡ first + k) × IsOpen decided k

-- what is known of combined tests (three-valued logic, Kleene 1938)
abbrev pub known_not : Truth → Truth
known_not (Known b) = Known (not b)
known_not (Undecided k) = Undecided k

abbrev pub known_and : Truth → Truth → Truth
known_and (Known false) y = Known false
known_and (Known true) y = y
known_and (Undecided k) (Known false) = Known false
known_and (Undecided k) (Known true) = Undecided k
known_and (Undecided k) (Undecided l) = Undecided k

abbrev pub known_or : Truth → Truth → Truth
known_or x y = known_not (known_and (known_not x) (known_not y))

abbrev pub known_at : ℕ → Option Bool → ℕ → Truth
known_at first (Some b) k = Known b
known_at first None k = Undecided (first + k)

-- what is known of a test, and of the test of a pair, which is true if the pair has none
abbrev pub known_of : List Truth → ℕ → Truth
known_of known g = slice_index_or known g (Known false)

abbrev pub known_test : List Truth → Option ℕ → Truth
known_test known None = Known true
known_test known (Some k) = known_of known k

-- what is known of a node, given what is known of the nodes that it names
abbrev pub known_node : ℕ → List (Option Bool) → List Truth → TestNode ℕ → Truth
known_node first decided known False = Known false
known_node first decided known True = Known true
known_node first decided known (Prim k) = known_at first (slice_index_or decided k None) k
known_node first decided known (Not x) = known_not (known_of known x)
known_node first decided known (And x y) = known_and (known_of known x) (known_of known y)
known_node first decided known (Or x y) = known_or (known_of known x) (known_of known y)

abbrev pub truly : Truth → Bool
truly (Known b) = b
truly (Undecided k) = false

abbrev pub falsely : Truth → Bool
falsely (Known b) = not b
falsely (Undecided k) = false

-- the numbers are tests of the tables, and the parts of each test come before it
abbrev pub AreQueried : TableParts → List ℕ → Type 0
AreQueried t queried =
    (i k : ℕ) → slice_get queried i ≡ Some k → IsTest t k × ((node : TestNode ℕ) → slice_get t.tests k ≡ Some node → IsSubset (test_parts node) (take i queried))

-- the list has what is known of each of these tests of the tables
abbrev pub AreKnown : ℕ → TableParts → List (Option Bool) → List ℕ → List Truth → Type 0
AreKnown first t decided queried known = (k : ℕ) → Has queried k → IsKnown first decided (holds_at t k) (known_of known k)
