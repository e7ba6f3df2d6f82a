-- The laws of chains, of provable equations and of algebras. Each is the contract of a function of the crate that does
-- nothing.
use Rattle.std.specs.Prelude.{◌≡◌, ◌↔◌, []}
use Rattle.kat_model.specs.Trees.{Term}
use Rattle.kat_model.specs.Problems.{ProblemParts, IsProblem}
use Rattle.kat_model.specs.Relations.{Same}
use Rattle.kat_model.specs.Strings.{GuardedString, IsString, accepts}
use Rattle.kat_model.specs.Closed.{closed}
use Rattle.chain_rules.specs.Chains.{ChainTree}
use Rattle.chain_rules.specs.Chained.{IsChained}
use Rattle.kat_axioms.specs.Meanings.{Interpretation, AreZero, HoldsIn}
use Rattle.kat_axioms.specs.Derivations.{Proves}

-- some chain of the question is a proof
pub record HasChain (q : ProblemParts) : Type 0 where
  pub chain : ChainTree
  pub is : IsChained q chain

-- The axioms are sound and complete: both sides are the same exactly where there is a chain, and exactly where the axioms
-- and the hypotheses prove that they are equal.
pub record AxiomsAreComplete (q : ProblemParts) : Type 0 where
  pub chains : Same q ↔ HasChain q
  pub proves : Proves q q.left q.right ↔ HasChain q

abbrev pub SameHaveChains : Type 0
SameHaveChains = (q : ProblemParts) → IsProblem q → AxiomsAreComplete q

-- the terms accept the same guarded strings over the tests and actions of the question
abbrev pub AcceptSameStrings : ProblemParts → Term → Term → Type 0
AcceptSameStrings q e f = (x : GuardedString) → IsString q.tests q.actions x → accepts e x.first x.rest ≡ accepts f x.first x.rest

-- sameness is equality of languages of guarded strings: those of the closed sides, and without hypotheses those of the
-- sides
pub record IsSameLanguage (q : ProblemParts) : Type 0 where
  pub closed_sides : Same q ↔ AcceptSameStrings q (closed q).left (closed q).right
  pub sides : q.hyps ≡ [] → Same q ↔ AcceptSameStrings q q.left q.right

abbrev pub SameAcceptAlike : Type 0
SameAcceptAlike = (q : ProblemParts) → IsSameLanguage q

-- what has a chain holds under the interpretation, if the hypotheses denote 0
abbrev pub ChainsHoldIn {ℓ} : Interpretation {ℓ} → Type 0
ChainsHoldIn I = (q : ProblemParts) → IsProblem q → HasChain q → AreZero I q.hyps → HoldsIn I q
