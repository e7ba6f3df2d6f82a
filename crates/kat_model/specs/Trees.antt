-- Tests and terms of Kleene algebra with tests as trees (Kozen 1997), without the addresses of the boxes.
use Rattle.std.specs.Prelude.{ℕ, ◌+◌, max, Bool, true, false, ◌&&◌}
use Rattle.kat_model.specs.declared.tree.Test.{Test}
use Rattle.kat_model.specs.declared.tree.Test.TheVariants.{False, True, Prim, Not', And', Or'}
use Rattle.kat_model.specs.declared.tree.Kat.{Kat}
use Rattle.kat_model.specs.declared.tree.Kat.TheVariants.{Zero, One, Test as Tested, Act, Sum', Seq', Star'}

-- an element of the Boolean algebra of tests, over primitive tests by their numbers
pub data TestTree : Type 0 where
  bottom : TestTree
  top : TestTree
  prim : (k : ℕ) → TestTree
  complement : (b : TestTree) → TestTree
  meet : (b c : TestTree) → TestTree
  join : (b c : TestTree) → TestTree

-- a term, over primitive actions by their numbers
pub data Term : Type 0 where
  zero : Term
  one : Term
  test : (b : TestTree) → Term
  act : (a : ℕ) → Term
  sum : (e f : Term) → Term
  product : (e f : Term) → Term
  star : (e : Term) → Term

-- the tree of a test of the program
abbrev pub test_tree : Test → TestTree
test_tree False = bottom
test_tree True = top
test_tree (Prim k) = prim k
test_tree (Not' p b) = complement (test_tree b)
test_tree (And' p b q c) = meet (test_tree b) (test_tree c)
test_tree (Or' p b q c) = join (test_tree b) (test_tree c)

-- the tree of a term of the program
abbrev pub kat_tree : Kat → Term
kat_tree Zero = zero
kat_tree One = one
kat_tree (Tested b) = test (test_tree b)
kat_tree (Act a) = act a
kat_tree (Sum' p e q f) = sum (kat_tree e) (kat_tree f)
kat_tree (Seq' p e q f) = product (kat_tree e) (kat_tree f)
kat_tree (Star' p e) = star (kat_tree e)

-- whether the term is a test: it has neither an action nor a star
abbrev pub is_test : Term → Bool
is_test zero = true
is_test one = true
is_test (test b) = true
is_test (act a) = false
is_test (sum e f) = is_test e && is_test f
is_test (product e f) = is_test e && is_test f
is_test (star e) = false

-- the number of nodes
abbrev pub test_size : TestTree → ℕ
test_size bottom = 1
test_size top = 1
test_size (prim k) = 1
test_size (complement b) = test_size b + 1
test_size (meet b c) = test_size b + test_size c + 1
test_size (join b c) = test_size b + test_size c + 1

-- the number of nodes, including those of tests
abbrev pub term_size : Term → ℕ
term_size zero = 1
term_size one = 1
term_size (test b) = test_size b + 1
term_size (act a) = 1
term_size (sum e f) = term_size e + term_size f + 1
term_size (product e f) = term_size e + term_size f + 1
term_size (star e) = term_size e + 1

-- the number of nodes on the longest path; a test counts as one node
abbrev pub term_height : Term → ℕ
term_height zero = 1
term_height one = 1
term_height (test b) = 1
term_height (act a) = 1
term_height (sum e f) = max (term_height e) (term_height f) + 1
term_height (product e f) = max (term_height e) (term_height f) + 1
term_height (star e) = term_height e + 1

-- the number of occurrences of actions
abbrev pub acts : Term → ℕ
acts zero = 0
acts one = 0
acts (test b) = 0
acts (act a) = 1
acts (sum e f) = acts e + acts f
acts (product e f) = acts e + acts f
acts (star e) = acts e
