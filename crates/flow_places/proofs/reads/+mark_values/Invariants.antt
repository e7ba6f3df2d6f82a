use Rattle.std.proofs.Common.{◌+◌, ◌*◌, length}
use Rattle.flow_places.proofs.reads.+mark_values.Given as goal

abbrev pub decreases-mark_values : goal.decreases-mark_values
decreases-mark_values l = 2 * length l.values.now

abbrev pub decreases-mark_values_from : goal.decreases-mark_values_from
decreases-mark_values_from l = 2 * length l.rest.now + 1
