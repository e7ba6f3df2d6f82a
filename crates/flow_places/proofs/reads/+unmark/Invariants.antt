use Rattle.std.proofs.Common.{◌+◌, ◌*◌, length}
use Rattle.flow_places.proofs.reads.+unmark.Given as goal

abbrev pub decreases-unmark : goal.decreases-unmark
decreases-unmark l = 2 * length l.targets.now

abbrev pub decreases-unmark_from : goal.decreases-unmark_from
decreases-unmark_from l = 2 * length l.rest.now + 1
