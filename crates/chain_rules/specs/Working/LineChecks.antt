-- Results of the check of lines, and its progress.
use Rattle.std.specs.Prelude.{◌≡◌, ℕ, List, ◌++◌, length, All}
use Rattle.kat_model.specs.Problems.{ProblemParts, counted}
use Rattle.chain_rules.specs.Chains.{ChainTree, LineParts, lines_of}
use Rattle.chain_rules.specs.Chained.{Holds, IsFirstFailing, HasTermsInRange}
use Rattle.chain_rules.specs.declared.checking.LineCheck.{LineCheck}
use Rattle.chain_rules.specs.declared.checking.LineCheck.TheVariants.{AllHold, FirstFailing}

-- all lines hold, with their number; or the number of the first line that fails
abbrev pub IsLineCheck : ProblemParts → List LineParts → LineCheck → Type 0
IsLineCheck q lines (AllHold n) = All (Holds q) lines × (n ≡ counted (length lines))
IsLineCheck q lines (FirstFailing n) = (line : ℕ) × IsFirstFailing q lines line × (n ≡ counted line)

-- the lines of the rest remain; the other lines hold, and count is their number
pub record IsUnderWay (q : ProblemParts) (all : List LineParts) (count : ℕ) (rest : ChainTree) : Type 0 where
  pub done : List LineParts
  pub split : all ≡ done ++ lines_of rest
  pub hold : All (Holds q) done
  pub number : count ≡ counted (length done)
  pub in_range : HasTermsInRange q.tests q.actions rest
