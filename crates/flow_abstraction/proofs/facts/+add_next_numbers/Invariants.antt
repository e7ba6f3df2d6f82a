use Rattle.std.proofs.Common.{◌+◌, ◌*◌, length}
use Rattle.flow_abstraction.proofs.facts.+add_next_numbers.Given as goal

abbrev pub decreases-add_next_numbers : goal.decreases-add_next_numbers
decreases-add_next_numbers l = 2 * length l.others.now

abbrev pub decreases-add_next_numbers_from : goal.decreases-add_next_numbers_from
decreases-add_next_numbers_from l = 2 * length l.rest.now + 1
