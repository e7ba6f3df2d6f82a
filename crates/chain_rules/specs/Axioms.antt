-- The axioms of Kleene algebra with tests (Kozen 1994, 1997), and the equations that are instances of each.
use Rattle.std.specs.Prelude.{◌≡◌, ℕ, length, Option, Some, None, slice_get, IsTrue}
use Rattle.kat_model.specs.Trees.{Term, zero, one, sum, product, star, is_test}
use Rattle.kat_model.specs.Steps.{Atom, out}
use Rattle.kat_model.specs.Problems.{ProblemParts}
use Rattle.chain_rules.specs.Chains.{Equation, equation}
use Rattle.chain_rules.specs.declared.chain.Axiom.{Axiom}
use Rattle.chain_rules.specs.declared.chain.Axiom.TheVariants.{Assoc, Comm, Idem, Zero, SeqAssoc, OneLeft, OneRight, ZeroLeft, ZeroRight, DistLeft, DistRight, UnfoldLeft, UnfoldRight, Bool, Hyp, Lfp, Rfp}

-- the equation of an axiom for three terms; `Bool` and `Hyp` have none
abbrev pub axiom_equation : Axiom → Term → Term → Term → Option Equation
axiom_equation Assoc x y z = Some (equation (sum x (sum y z)) (sum (sum x y) z))
axiom_equation Comm x y z = Some (equation (sum x y) (sum y x))
axiom_equation Idem x y z = Some (equation (sum x x) x)
axiom_equation Zero x y z = Some (equation (sum x zero) x)
axiom_equation SeqAssoc x y z = Some (equation (product x (product y z)) (product (product x y) z))
axiom_equation OneLeft x y z = Some (equation (product one x) x)
axiom_equation OneRight x y z = Some (equation (product x one) x)
axiom_equation ZeroLeft x y z = Some (equation (product zero x) zero)
axiom_equation ZeroRight x y z = Some (equation (product x zero) zero)
axiom_equation DistLeft x y z = Some (equation (product x (sum y z)) (sum (product x y) (product x z)))
axiom_equation DistRight x y z = Some (equation (product (sum x y) z) (sum (product x z) (product y z)))
axiom_equation UnfoldLeft x y z = Some (equation (star x) (sum one (product x (star x))))
axiom_equation UnfoldRight x y z = Some (equation (star x) (sum one (product (star x) x)))
axiom_equation Lfp p q r = Some (equation (sum (product (star p) q) r) r)
axiom_equation Rfp p q r = Some (equation (sum (product q (star p)) r) r)
axiom_equation Bool x y z = None
axiom_equation (Hyp k) x y z = None

-- the premise of an axiom for three terms: the equation that an inner chain must show, if one is required
abbrev pub axiom_premise : Axiom → Term → Term → Term → Option Equation
axiom_premise Lfp p q r = Some (equation (sum (sum q (product p r)) r) r)
axiom_premise Rfp p q r = Some (equation (sum (sum q (product r p)) r) r)
axiom_premise rule x y z = None

-- both sides are tests, without actions and stars, and are true at the same atoms of `tests` tests
pub record AreEqualTests (tests : ℕ) (s : Equation) : Type 0 where
  pub left : IsTrue (is_test s.left)
  pub right : IsTrue (is_test s.right)
  pub same : (atom : Atom) → length atom ≡ tests → out s.left atom ≡ out s.right atom

-- the equation and the premise are those of the axiom for some three terms
pub record IsOverTerms (rule : Axiom) (inner : Option Equation) (s : Equation) : Type 0 where
  pub x : Term
  pub y : Term
  pub z : Term
  pub sides : axiom_equation rule x y z ≡ Some s
  pub premise : axiom_premise rule x y z ≡ inner

-- the equation, from left to right, is an instance of the axiom; `inner` is the equation that an inner chain shows, if
-- there is one
abbrev pub IsInstance : ProblemParts → Axiom → Option Equation → Equation → Type 0
IsInstance q Bool inner s = (inner ≡ None) × AreEqualTests q.tests s
IsInstance q (Hyp k) inner s = (inner ≡ None) × (slice_get q.hyps k ≡ Some s.left) × (s.right ≡ zero)
IsInstance q rule inner s = IsOverTerms rule inner s
