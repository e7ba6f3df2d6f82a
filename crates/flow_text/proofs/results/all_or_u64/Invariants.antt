use Rattle.std.proofs.Common.{◌≡◌, take}
use Rattle.flow_text.specs.Checking.{sorts_or_u64}
use Rattle.flow_text.proofs.results.all_or_u64.Given as goal

-- the sorts so far
abbrev pub invariant-loop-sort : goal.invariant-loop-sort
invariant-loop-sort l = l.known.items ≡ sorts_or_u64 (take l.sort-index l.sorts)
