use Rattle.std.proofs.Common.{◌+◌, ◌-◌, length}
use Rattle.walk_regions.proofs.entry_list.note.Given as goal

abbrev pub decreases-loop-flags : goal.decreases-loop-flags
decreases-loop-flags l = l.number + 1 - length l.flags.items
