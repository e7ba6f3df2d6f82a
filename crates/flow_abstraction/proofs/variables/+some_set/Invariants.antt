use Rattle.std.proofs.Common.{◌+◌, ◌*◌, length}
use Rattle.flow_abstraction.proofs.variables.+some_set.Given as goal

abbrev pub decreases-some_set : goal.decreases-some_set
decreases-some_set l = 2 * length l.sets.now

abbrev pub decreases-some_set_from : goal.decreases-some_set_from
decreases-some_set_from l = 2 * length l.rest.now + 1
