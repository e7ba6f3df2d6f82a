use Rattle.tool_decide.specs.Working.Tallies.{IsTallied}
use Rattle.tool_decide.proofs.bench.tally_of.Given as goal

-- the problems so far are counted
abbrev pub invariant-loop-k : goal.invariant-loop-k
invariant-loop-k l = IsTallied l.k l.tally.equal l.tally.different l.tally.moves
