use Rattle.std.proofs.Common.{◌≡◌, take}
use Rattle.flow_text.specs.Checking.{seconds}
use Rattle.flow_text.proofs.check.sorts_of.Given as goal

-- the sorts of the targets so far
abbrev pub invariant-loop-target : goal.invariant-loop-target
invariant-loop-target l = l.sorts.items ≡ seconds (take l.target-index l.targets)
