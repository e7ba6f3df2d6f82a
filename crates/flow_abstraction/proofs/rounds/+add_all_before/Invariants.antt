use Rattle.std.proofs.Common.{◌+◌, ◌*◌, length}
use Rattle.flow_abstraction.proofs.rounds.+add_all_before.Given as goal

abbrev pub decreases-add_all_before : goal.decreases-add_all_before
decreases-add_all_before l = 2 * length l.comparisons.now

abbrev pub decreases-add_all_before_from : goal.decreases-add_all_before_from
decreases-add_all_before_from l = 2 * length l.rest.now + 1
