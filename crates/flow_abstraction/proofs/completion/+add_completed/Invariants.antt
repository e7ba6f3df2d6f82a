use Rattle.std.proofs.Common.{◌+◌, ◌*◌, length}
use Rattle.flow_abstraction.proofs.completion.+add_completed.Given as goal

abbrev pub decreases-add_completed : goal.decreases-add_completed
decreases-add_completed l = 2 * length l.tests.now

abbrev pub decreases-add_completed_from : goal.decreases-add_completed_from
decreases-add_completed_from l = 2 * length l.rest.now + 1
