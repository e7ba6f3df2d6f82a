-- Nodes of tests and of terms: which nodes they name, and when two are equal.
use Rattle.std.specs.Prelude.{◌<◌, ℕ, Bool, true, false, ◌&&◌, nat_eq, List, [], ◌∷◌}
use Rattle.term_nodes.specs.declared.TestNode.{TestNode}
use Rattle.term_nodes.specs.declared.TestNode.TheVariants.{False, True, Prim, Not, And, Or}
use Rattle.term_nodes.specs.declared.TermNode.{TermNode}
use Rattle.term_nodes.specs.declared.TermNode.TheVariants.{Zero, One, Test, Act, Sum, Seq, Star}

-- the node names only tests below n
abbrev pub IsTestOver : ℕ → TestNode ℕ → Type 0
IsTestOver n False = Unit {0}
IsTestOver n True = Unit {0}
IsTestOver n (Prim k) = Unit {0}
IsTestOver n (Not i) = i < n
IsTestOver n (And i j) = (i < n) × (j < n)
IsTestOver n (Or i j) = (i < n) × (j < n)

-- the node names only tests below m and terms below n
abbrev pub IsOver : ℕ → ℕ → TermNode ℕ ℕ → Type 0
IsOver m n Zero = Unit {0}
IsOver m n One = Unit {0}
IsOver m n (Test i) = i < m
IsOver m n (Act a) = Unit {0}
IsOver m n (Sum i j) = (i < n) × (j < n)
IsOver m n (Seq i j) = (i < n) × (j < n)
IsOver m n (Star i) = i < n

-- the tests that a test node names
abbrev pub test_parts : TestNode ℕ → List ℕ
test_parts False = []
test_parts True = []
test_parts (Prim k) = []
test_parts (Not i) = i ∷ []
test_parts (And i j) = i ∷ j ∷ []
test_parts (Or i j) = i ∷ j ∷ []

-- the terms that a term node names, and the tests that it names
abbrev pub term_parts : TermNode ℕ ℕ → List ℕ
term_parts Zero = []
term_parts One = []
term_parts (Test i) = []
term_parts (Act a) = []
term_parts (Sum i j) = i ∷ j ∷ []
term_parts (Seq i j) = i ∷ j ∷ []
term_parts (Star i) = i ∷ []

abbrev pub tests_of_term : TermNode ℕ ℕ → List ℕ
tests_of_term Zero = []
tests_of_term One = []
tests_of_term (Test i) = i ∷ []
tests_of_term (Act a) = []
tests_of_term (Sum i j) = []
tests_of_term (Seq i j) = []
tests_of_term (Star i) = []

-- whether two nodes are equal
abbrev pub same_test_node : TestNode ℕ → TestNode ℕ → Bool
same_test_node False False = true
same_test_node True True = true
same_test_node (Prim k) (Prim l) = nat_eq k l
same_test_node (Not x) (Not y) = nat_eq x y
same_test_node (And w x) (And y z) = nat_eq w y && nat_eq x z
same_test_node (Or w x) (Or y z) = nat_eq w y && nat_eq x z
same_test_node m n = false

abbrev pub same_term_node : TermNode ℕ ℕ → TermNode ℕ ℕ → Bool
same_term_node Zero Zero = true
same_term_node One One = true
same_term_node (Test x) (Test y) = nat_eq x y
same_term_node (Act a) (Act b) = nat_eq a b
same_term_node (Sum w x) (Sum y z) = nat_eq w y && nat_eq x z
same_term_node (Seq w x) (Seq y z) = nat_eq w y && nat_eq x z
same_term_node (Star x) (Star y) = nat_eq x y
same_term_node m n = false
