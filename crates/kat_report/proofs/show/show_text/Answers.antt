use Rattle.std.proofs.Common.{ap, ◌∙◌, subst}
use Rattle.problem_file.specs.Working.Scopes.{IsPlain}
use Rattle.abstraction.specs.Abstracts.{AbstractParts}
use Rattle.kat_report.proofs.show.show_text.Goals as goal

pub text_in-requires : goal.text_in-requires
text_in-requires c =
    let tests = c.tests.ensures.value ∙ ap (λ (z : AbstractParts). z.problem.tests) c.shown.view_is in
    let actions = c.actions.ensures.value ∙ ap (λ (z : AbstractParts). z.problem.actions) c.shown.view_is in
    subst (λ n. IsPlain c.in_ok-plain.plain n c.args.shown.now.problem.actions) tests (subst (IsPlain c.in_ok-plain.plain c.tests.result) actions c.in_ok-plain.ensures)
