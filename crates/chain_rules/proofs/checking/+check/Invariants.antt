use Rattle.std.proofs.Common.{drop}
use Rattle.kat_model.specs.Trees.{kat_tree}
use Rattle.chain_rules.specs.Chains.{lines_of}
use Rattle.chain_rules.specs.ChainViews.{chain_tree}
use Rattle.chain_rules.specs.Working.LineChecks.{IsUnderWay}
use Rattle.chain_rules.proofs.checking.+check.Given as goal

abbrev pub decreases-check_line : goal.decreases-check_line
decreases-check_line l = goal.size-check_line l

abbrev pub decreases-check_lines : goal.decreases-check_lines
decreases-check_lines l = goal.size-check_lines l

-- the lines so far hold
abbrev pub invariant-check_lines-lines : goal.invariant-check_lines-lines
invariant-check_lines-lines l =
    IsUnderWay l.problem (lines_of (chain_tree (kat_tree l.initial.before) l.line-items)) l.count (chain_tree (kat_tree l.before) (drop l.line-index l.line-items))
