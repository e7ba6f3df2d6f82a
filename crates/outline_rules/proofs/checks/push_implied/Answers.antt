use Rattle.std.proofs.Common.{◌≡◌, suc}
use Rattle.outline_rules.proofs.StatementChecks.{and_place, and_checks}
use Rattle.outline_rules.proofs.checks.push_implied.Goals as goal

pub returns-clause-place : goal.returns-clause-place
returns-clause-place c = and_place (λ to. to ≡ suc c.args.previous) c.in_ok-to.to c.push_check.result c.and.result c.and.ensures c.in_ok-to.ensures

pub returns-clause-checks : goal.returns-clause-checks
returns-clause-checks c = rw (← c.in_ok-to.ensures) (and_checks _ c.in_ok-to.to c.push_check.result c.and.result c.and.ensures c.push_check.ensures)
