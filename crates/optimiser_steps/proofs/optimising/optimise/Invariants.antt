use Rattle.std.proofs.Common.{◌≡◌, ◌+◌, length}
use Rattle.optimiser_steps.specs.Logs.{IsLog}
use Rattle.optimiser_steps.specs.Meanings.{HasProgInRange}
use Rattle.optimiser_steps.proofs.optimising.optimise.Given as goal

-- the log leads from the initial program to the current one, and its length is the number of turns used
abbrev pub invariant-loop-log : goal.invariant-loop-log
invariant-loop-log l = record {
  chain : IsLog l.file l.prog l.log.items l.current;
  range : HasProgInRange l.file l.current;
  turns : length l.log.items + l.left ≡ l.fn.turns;
}

abbrev pub decreases-loop-log : goal.decreases-loop-log
decreases-loop-log l = l.left
