-- Expressions of guarded Kleene algebra with tests (Smolka et al. 2020) as trees, without the boxes of the program, and
-- their terms.
use Rattle.std.specs.Prelude.{ℕ, ◌+◌, List}
use Rattle.kat_model.specs.Trees.{TestTree, top, test_tree, test_size, Term, test as test_term, act as act_term, product as product_term}
use Rattle.kat_model.specs.Balanced.{balanced}
use Rattle.while_lang.specs.Encoding.{branch_term, loop_term}
use Rattle.gkat_front.specs.declared.gkat.Gkat.{Gkat}
use Rattle.gkat_front.specs.declared.gkat.Gkat.TheVariants.{Test, Act, Seq', Choice', Loop'}

-- an expression over primitive actions, which are numbers
pub data GkatTree : Type 0 where
  test : (b : TestTree) → GkatTree
  act : (a : ℕ) → GkatTree
  product : (e f : GkatTree) → GkatTree
  choice : (b : TestTree) (e f : GkatTree) → GkatTree
  loop : (b : TestTree) (e : GkatTree) → GkatTree

-- the tree of an expression of the program
abbrev pub gkat_tree : Gkat → GkatTree
gkat_tree (Test b) = test (test_tree b)
gkat_tree (Act a) = act a
gkat_tree (Seq' p e q f) = product (gkat_tree e) (gkat_tree f)
gkat_tree (Choice' b p e q f) = choice (test_tree b) (gkat_tree e) (gkat_tree f)
gkat_tree (Loop' b p e) = loop (test_tree b) (gkat_tree e)

-- the number of nodes, including those of tests
abbrev pub gkat_size : GkatTree → ℕ
gkat_size (test b) = test_size b + 1
gkat_size (act a) = 1
gkat_size (product e f) = gkat_size e + gkat_size f + 1
gkat_size (choice b e f) = test_size b + gkat_size e + gkat_size f + 1
gkat_size (loop b e) = test_size b + gkat_size e + 1

-- the balanced product of expressions in order
abbrev pub gkat_product : List GkatTree → GkatTree
gkat_product = balanced (test top) product

-- the term of an expression: the term of a choice is that of an `if`, and the term of a loop is that of a `while`
abbrev pub kat_of : GkatTree → Term
kat_of (test b) = test_term b
kat_of (act a) = act_term a
kat_of (product e f) = product_term (kat_of e) (kat_of f)
kat_of (choice b e f) = branch_term b (kat_of e) (kat_of f)
kat_of (loop b e) = loop_term b (kat_of e)
