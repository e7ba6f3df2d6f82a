use Rattle.std.proofs.Common.{ap, ◌∙◌}
use Rattle.cert_checker.specs.Roots.{compared}
use Rattle.cert_checker.proofs.pass.numbers_of.Goals as goal

pub pass_numbers-requires-clause-closed : goal.pass_numbers-requires-clause-closed
pass_numbers-requires-clause-closed c = c.in_ok-closed.ensures ∙ ap (λ s. compared s c.args.problem.now) c.style.ensures.value
