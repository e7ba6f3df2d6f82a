use Rattle.std.proofs.Common.{subst}
use Rattle.problem_file.specs.Working.Scopes.{IsPlain}
use Rattle.flow_print.proofs.text.flow_text.Goals as goal

pub text_in-requires : goal.text_in-requires
text_in-requires c =
    subst (λ n. IsPlain c.in_ok-plain.plain n c.args.problem.now.actions) c.tests.ensures.value (subst (IsPlain c.in_ok-plain.plain c.tests.result) c.actions.ensures.value c.in_ok-plain.ensures)
