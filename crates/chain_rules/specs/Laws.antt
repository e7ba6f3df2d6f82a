-- The law of chains.
use Rattle.kat_model.specs.Problems.{ProblemParts}
use Rattle.kat_model.specs.Relations.{Same}
use Rattle.chain_rules.specs.Chains.{ChainTree}
use Rattle.chain_rules.specs.Chained.{IsChained}

-- if a chain is a proof, both sides denote the same relation in each table that satisfies the hypotheses
abbrev pub ChainedAreSame : Type 0
ChainedAreSame = (q : ProblemParts) (c : ChainTree) → IsChained q c → Same q
