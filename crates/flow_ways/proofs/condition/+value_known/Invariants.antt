use Rattle.std.proofs.Common.{◌+◌, ◌*◌, length}
use Rattle.flow_ways.proofs.condition.+value_known.Given as goal

abbrev pub decreases-value_known : goal.decreases-value_known
decreases-value_known l = 2 * length l.facts.now

abbrev pub decreases-value_known_from : goal.decreases-value_known_from
decreases-value_known_from l = 2 * length l.rest.now + 1
