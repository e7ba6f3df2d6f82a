use Rattle.std.proofs.Common.{◌≡◌, take}
use Rattle.flow_text.specs.Checking.{firsts}
use Rattle.flow_text.proofs.check.variables_of.Given as goal

-- the variables of the targets so far
abbrev pub invariant-loop-target : goal.invariant-loop-target
invariant-loop-target l = l.variables.items ≡ firsts (take l.target-index l.targets)
