-- Derivable equations: the least congruence that has the axioms and the hypotheses (equational logic; the axioms are
-- those of Kozen 1994 and 1997).
use Rattle.std.specs.Prelude.{None, Some}
use Rattle.kat_model.specs.Trees.{Term, sum, product, star}
use Rattle.kat_model.specs.Problems.{ProblemParts}
use Rattle.chain_rules.specs.Chains.{Equation}
use Rattle.chain_rules.specs.Axioms.{IsInstance}
use Rattle.chain_rules.specs.declared.chain.Axiom.{Axiom}

-- the axioms and the hypotheses of the question prove that the terms are equal
pub data Proves (q : ProblemParts) : Term → Term → Type 0 where
  itself : (e : Term) → Proves q e e
  symmetric : {e f : Term} → Proves q e f → Proves q f e
  transitive : {e f g : Term} → Proves q e f → Proves q f g → Proves q e g
  sums : {e f g h : Term} → Proves q e g → Proves q f h → Proves q (sum e f) (sum g h)
  products : {e f g h : Term} → Proves q e g → Proves q f h → Proves q (product e f) (product g h)
  stars : {e f : Term} → Proves q e f → Proves q (star e) (star f)
  -- an instance of an axiom without a premise, which may be a hypothesis
  axiom_without : (rule : Axiom) (s : Equation) → IsInstance q rule None s → Proves q s.left s.right
  -- an instance of an axiom with a premise
  axiom_with : (rule : Axiom) (premise s : Equation) → IsInstance q rule (Some premise) s → Proves q premise.left premise.right → Proves q s.left s.right
