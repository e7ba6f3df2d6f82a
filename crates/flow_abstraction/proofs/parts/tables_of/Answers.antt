use Rattle.std.proofs.Common.{◌≡◌, ◌≤◌, List, length, map, ◌∙◌, sym, subst, ap}
use mathlib.Core.Path.{ap₂}
use Rattle.std.proofs.lemmas.List.{length-map}
use Rattle.kat_model.specs.declared.limits.TheConstants.{MAX_ACTIONS}
use Rattle.flow_forms.specs.Comparisons.{FlowComparisonTree}
use Rattle.flow_problem.specs.Edges.{FlowActionTree}
use Rattle.flow_problem.specs.FlowRounds.{flow_rounds}
use Rattle.flow_problem.specs.FlowProblems.{flow_actions}
use Rattle.flow_edges.specs.EdgeViews.{flow_action}
use Rattle.flow_abstraction.specs.PosedQuestion.{question_of, marks_of, HasFault}
use Rattle.flow_abstraction.specs.Working.Placed.{of_table_fault}
use Rattle.flow_abstraction.specs.Working.Stages.{posed_by}
use Rattle.flow_abstraction.proofs.Refusals.{refused_as}
use Rattle.flow_abstraction.proofs.Stages.{actions_are, actions_refused}
use Rattle.flow_abstraction.proofs.parts.tables_of.Goals as goal

pub returns-in_err-actions-clause-refused : goal.returns-in_err-actions-clause-refused
returns-in_err-actions-clause-refused c =
    let e = c.in_err-actions.field-0.0 in
    refused_as (HasFault (posed_by c.args.question.now)) (of_table_fault e) c.from_residual.result c.from_residual.ensures.1
    (actions_refused (posed_by c.args.question.now) c.args.before.now c.args.after.now c.deref.result.now c.deref-2.result.now c.deref.ensures.value c.deref-2.ensures.value
    c.requires.before c.requires.after e c.in_err-actions.ensures.many c.in_err-actions.ensures.actions_alone)

pub returns-clause-made : goal.returns-clause-made
returns-clause-made c =
    let a = posed_by c.args.question.now in
    let acts : map flow_action c.in_ok-actions.actions.items ≡ flow_actions (question_of a) (marks_of a) =
    actions_are a c.args.before.now c.args.after.now c.deref.result.now c.deref-2.result.now c.deref.ensures.value c.deref-2.ensures.value c.requires.before c.requires.after _ c.in_ok-actions.ensures.made in
    record {
      tests =
          c.in_ok-tests.ensures
          ∙ ap₂ (λ (ds : List FlowActionTree) (ts : List FlowComparisonTree). flow_rounds c.args.question.now.rounds c.args.question.now.sorts.now ds ts)
          (ap (map flow_action) c.deref-3.ensures.value ∙ acts) c.requires.tests;
      actions = acts;
      few = subst (λ n. n ≤ MAX_ACTIONS) (c.in_ok-actions.actions.ok.0 ∙ sym (length-map c.in_ok-actions.actions.items flow_action) ∙ ap length acts) c.in_ok-actions.ensures.few;
    }
