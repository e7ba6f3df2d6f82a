-- Which chains are proofs, and why other chains are not.
use Rattle.std.specs.Prelude.{◌≡◌, ◌≢◌, ◌⊎◌, ℕ, List, take, Some, slice_get, All}
use Rattle.kat_model.specs.Trees.{Term}
use Rattle.kat_model.specs.Problems.{ProblemParts, IsInRange, counted}
use Rattle.chain_rules.specs.Chains.{ChainTree, alone, equal_by, equal_by_inner, LineParts, equation, first_term, last_term, lines_of}
use Rattle.chain_rules.specs.Places.{subterm, AreEqualOutside}
use Rattle.chain_rules.specs.Axioms.{IsInstance}
use Rattle.chain_rules.specs.declared.answer.ChainReason.{ChainReason}
use Rattle.chain_rules.specs.declared.answer.ChainReason.TheVariants.{Start, End, Step}
use Rattle.chain_rules.specs.declared.answer.ChainAnswer.{ChainAnswer}
use Rattle.chain_rules.specs.declared.answer.ChainAnswer.TheVariants.{Accepted, Rejected}

-- The line holds: the term before it and its own term are equal outside the place, and their subterms there are the
-- sides of an instance of its axiom, in one order or the other.
pub record Holds (q : ProblemParts) (line : LineParts) : Type 0 where
  pub x : Term
  pub y : Term
  pub outside : AreEqualOutside line.path line.before line.after
  pub before : subterm line.path line.before ≡ Some x
  pub after : subterm line.path line.after ≡ Some y
  pub by_axiom : IsInstance q line.rule line.inner (equation x y) ⊎ IsInstance q line.rule line.inner (equation y x)

-- the chain is a proof: it leads from the left side to the right side, and each line holds, including the lines of
-- inner chains
pub record IsChained (q : ProblemParts) (c : ChainTree) : Type 0 where
  pub start : first_term c ≡ q.left
  pub end : last_term c ≡ q.right
  pub lines : All (Holds q) (lines_of c)

-- line n is the first that fails
pub record IsFirstFailing (q : ProblemParts) (lines : List LineParts) (n : ℕ) : Type 0 where
  pub line : LineParts
  pub here : slice_get lines n ≡ Some line
  pub fails : Holds q line → ⊥
  pub earlier : All (Holds q) (take n lines)

-- the first reason why the chain is not a proof; the number of a line saturates at the largest number
abbrev pub IsReason : ProblemParts → ChainTree → ChainReason → Type 0
IsReason q c Start = first_term c ≢ q.left
IsReason q c End = (first_term c ≡ q.left) × (last_term c ≢ q.right)
IsReason q c (Step n) =
    (first_term c ≡ q.left) × (last_term c ≡ q.right) × (line : ℕ) × IsFirstFailing q (lines_of c) line × (n ≡ counted line)

-- the answer is correct
abbrev pub Answers : ProblemParts → ChainTree → ChainAnswer → Type 0
Answers q c Accepted = IsChained q c
Answers q c (Rejected reason) = IsReason q c reason

-- each term of the chain, including those of inner chains, is in range
abbrev pub HasTermsInRange : ℕ → ℕ → ChainTree → Type 0
HasTermsInRange tests actions (alone e) = IsInRange tests actions e
HasTermsInRange tests actions (equal_by e rule path rest) = IsInRange tests actions e × HasTermsInRange tests actions rest
HasTermsInRange tests actions (equal_by_inner e rule path inner rest) =
    IsInRange tests actions e × HasTermsInRange tests actions inner × HasTermsInRange tests actions rest
