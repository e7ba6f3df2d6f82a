use Rattle.std.proofs.Common.{take}
use Rattle.lrat_checker.specs.Working.Steps.{IsStatus}
use Rattle.lrat_checker.proofs.status.status_of.Given as goal

abbrev pub invariant-loop-literal : goal.invariant-loop-literal
invariant-loop-literal l = IsStatus l.falses (take l.literal-index l.literal-items) l.status
