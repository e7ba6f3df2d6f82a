use Rattle.std.proofs.Common.{sym, ◌∙◌}
use Rattle.cert_checker.proofs.NextTests.{guard_waits}
use Rattle.cert_checker.proofs.waiting.waiting_universal.Goals as goal

pub returns-in-Undecided : goal.returns-in-Undecided
returns-in-Undecided c = guard_waits c.args.known.now c.args.targets.now.entries c.in_ok-universal.field-0 c.in_ok-get.field-0.now c.in-Undecided.test (sym c.in_ok-get.ensures.value) (sym c.value_of.ensures ∙ c.in-Undecided.is)
