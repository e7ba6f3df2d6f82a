-- The meaning of tests and terms in a Kleene algebra with tests (Kozen 1997).
use Rattle.std.specs.Prelude.{ℕ, List}
use Rattle.kat_model.specs.Trees.{TestTree, bottom, top, prim, complement, meet, join, Term, zero, one, test, act, sum, product, star}
use Rattle.kat_model.specs.Members.{Has}
use Rattle.kat_model.specs.Problems.{ProblemParts}
use Rattle.kat_axioms.specs.Algebras.{TestAlgebra}

-- An interpretation: an algebra, an element for each primitive action, and for each primitive test an element that is a
-- test.
pub record Interpretation {ℓ} : Type (ℓ + 1) where
  pub algebra : TestAlgebra {ℓ}
  pub open algebra use *
  pub actions : ℕ → Carrier
  pub tests : ℕ → Carrier
  pub are_tests : (k : ℕ) → IsTest (tests k)

module _ {ℓ} (I : Interpretation {ℓ}) where
  -- the element that a test denotes, and the element that a term denotes

  abbrev pub test_value : TestTree → I.Carrier
  test_value bottom = I.zero
  test_value top = I.one
  test_value (prim k) = I.tests k
  test_value (complement b) = I.complement (test_value b)
  test_value (meet b c) = I.product (test_value b) (test_value c)
  test_value (join b c) = I.sum (test_value b) (test_value c)

  abbrev pub value : Term → I.Carrier
  value zero = I.zero
  value one = I.one
  value (test b) = test_value b
  value (act a) = I.actions a
  value (sum e f) = I.sum (value e) (value f)
  value (product e f) = I.product (value e) (value f)
  value (star e) = I.star (value e)

  -- each of these terms denotes 0
  abbrev pub AreZero : List Term → Type 0
  AreZero es = (e : Term) → Has es e → I.Equal (value e) I.zero

  -- the equation of the question holds
  abbrev pub HoldsIn : ProblemParts → Type 0
  HoldsIn q = I.Equal (value q.left) (value q.right)
