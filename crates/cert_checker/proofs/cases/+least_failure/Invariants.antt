use Rattle.std.proofs.Common.{◌+◌, ◌*◌}
use Rattle.cert_checker.specs.LeastFailures.{open_count}
use Rattle.cert_checker.proofs.cases.+least_failure.Given as goal

-- each split decides a test
abbrev pub decreases-least_failure : goal.decreases-least_failure
decreases-least_failure l = 2 * open_count l.case.now.decided.items + 1

abbrev pub decreases-failure_by : goal.decreases-failure_by
decreases-failure_by l = 2 * open_count l.case.now.decided.items
