use Rattle.std.proofs.Common.{◌+◌, ◌-◌, length}
use Rattle.walk_regions.specs.Filing.{KeepsLists}
use Rattle.walk_regions.proofs.entry_list.widen.Given as goal

abbrev pub invariant-loop-alloc : goal.invariant-loop-alloc
invariant-loop-alloc l = KeepsLists l.initial.lists.items l.lists.items

abbrev pub decreases-loop-alloc : goal.decreases-loop-alloc
decreases-loop-alloc l = l.key + 1 - length l.lists.items
