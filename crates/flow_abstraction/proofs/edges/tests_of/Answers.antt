use Rattle.std.proofs.Common.{◌≤◌, length, ◌∙◌, sym, subst, ap}
use Rattle.std.proofs.lemmas.List.{length-map}
use Rattle.kat_model.specs.declared.limits.TheConstants.{MAX_TESTS}
use Rattle.flow_forms.specs.Comparisons.{comparison_tree}
use Rattle.flow_abstraction.specs.PosedQuestion.{HasFault}
use Rattle.flow_abstraction.specs.Working.Placed.{of_table_fault}
use Rattle.flow_abstraction.specs.Working.Stages.{posed_by}
use Rattle.flow_abstraction.proofs.Refusals.{refused_as}
use Rattle.flow_abstraction.proofs.Stages.{tests_are, tests_refused}
use Rattle.flow_abstraction.proofs.edges.tests_of.Goals as goal

pub returns-in_err-test_rows-clause-refused : goal.returns-in_err-test_rows-clause-refused
returns-in_err-test_rows-clause-refused c =
    let e = c.in_err-test_rows.field-0.0 in
    refused_as (HasFault (posed_by c.args.question.now)) (of_table_fault e) c.from_residual.result c.from_residual.ensures.1
    (tests_refused (posed_by c.args.question.now) c.args.first.now c.args.second.now c.deref.result.now c.deref-2.result.now c.deref.ensures.value c.deref-2.ensures.value
    c.requires.first c.requires.second e c.in_err-test_rows.ensures.many c.in_err-test_rows.ensures.tests_alone)

pub returns-clause-made : goal.returns-clause-made
returns-clause-made c =
    tests_are (posed_by c.args.question.now) c.args.first.now c.args.second.now c.deref.result.now c.deref-2.result.now c.deref.ensures.value c.deref-2.ensures.value
    c.requires.first c.requires.second _ c.in_ok-test_rows.ensures.made

pub returns-clause-few : goal.returns-clause-few
returns-clause-few c =
    let made =
    tests_are (posed_by c.args.question.now) c.args.first.now c.args.second.now c.deref.result.now c.deref-2.result.now c.deref.ensures.value c.deref-2.ensures.value
    c.requires.first c.requires.second _ c.in_ok-test_rows.ensures.made in
    subst (λ n. n ≤ MAX_TESTS) (c.in_ok-test_rows.field-0.ok.0 ∙ sym (length-map c.in_ok-test_rows.field-0.items comparison_tree) ∙ ap length made) c.in_ok-test_rows.ensures.few
