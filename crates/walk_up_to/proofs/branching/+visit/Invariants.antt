use Rattle.std.proofs.Common.{◌+◌, ◌*◌}
use Rattle.walk_up_to.specs.Cases.{open_count}
use Rattle.walk_up_to.proofs.branching.+visit.Given as goal

-- each split decides a test
abbrev pub decreases-visit : goal.decreases-visit
decreases-visit l = 3 * open_count l.case.now.decided.items + 2

abbrev pub decreases-visit_split : goal.decreases-visit_split
decreases-visit_split l = 3 * open_count l.case.now.decided.items + 1

abbrev pub decreases-visit_both : goal.decreases-visit_both
decreases-visit_both l = 3 * open_count l.first.now.decided.items + 3
