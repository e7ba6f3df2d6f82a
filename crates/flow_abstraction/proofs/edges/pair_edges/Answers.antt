use Rattle.std.proofs.Common.{map, ◌∙◌, ap}
use Rattle.flow_model.specs.Polish.{graph_of}
use Rattle.flow_forms.specs.Comparisons.{comparison_tree}
use Rattle.flow_problem.specs.FlowProblems.{edges_before, edges_after}
use Rattle.flow_abstraction.specs.PosedQuestion.{question_of, marks_of, HasFault}
use Rattle.flow_abstraction.specs.Working.Placed.{of_split_fault, HasEdges}
use Rattle.flow_abstraction.specs.Working.Stages.{posed_by}
use Rattle.flow_abstraction.proofs.Refusals.{refused_as}
use Rattle.flow_abstraction.proofs.Stages.{before_refused, after_refused, before_many, after_many, before_split, after_split, before_short, after_short}
use Rattle.flow_abstraction.proofs.edges.pair_edges.Goals as goal

pub returns-in_err-first-clause-refused : goal.returns-in_err-first-clause-refused
returns-in_err-first-clause-refused c =
    let e = c.in_err-first.field-0.0 in
    refused_as (HasFault (posed_by c.args.question.now)) e c.from_residual.result c.from_residual.ensures.1
    (before_refused (posed_by c.args.question.now) e c.in_err-first.ensures.refused)

pub returns-in_err-second-clause-refused : goal.returns-in_err-second-clause-refused
returns-in_err-second-clause-refused c =
    let e = c.in_err-second.field-0.0 in
    refused_as (HasFault (posed_by c.args.question.now)) e c.from_residual-in_err-second.result c.from_residual-in_err-second.ensures.1
    (after_refused (posed_by c.args.question.now) e c.in_err-second.ensures.refused)

pub returns-in_err-before-clause-refused : goal.returns-in_err-before-clause-refused
returns-in_err-before-clause-refused c =
    let e = c.in_err-before.field-0.0 in
    refused_as (HasFault (posed_by c.args.question.now)) (of_split_fault e) c.from_residual-in_err-before.result c.from_residual-in_err-before.ensures.1
    (before_many (posed_by c.args.question.now) (map comparison_tree c.deref.result.now) (ap (map comparison_tree) c.deref.ensures.value ∙ c.in_ok-tests.ensures.made) c.in_ok-first.first
    c.in_ok-first.ensures.made e c.in_err-before.ensures.splits c.in_err-before.ensures.many)

pub returns-in_err-after-clause-refused : goal.returns-in_err-after-clause-refused
returns-in_err-after-clause-refused c =
    let e = c.in_err-after.field-0.0 in
    refused_as (HasFault (posed_by c.args.question.now)) (of_split_fault e) c.from_residual-in_err-after.result c.from_residual-in_err-after.ensures.1
    (after_many (posed_by c.args.question.now) (map comparison_tree c.deref-2.result.now) (ap (map comparison_tree) c.deref-2.ensures.value ∙ c.in_ok-tests.ensures.made) c.in_ok-second.second
    c.in_ok-second.ensures.made e c.in_err-after.ensures.splits c.in_err-after.ensures.many)

pub returns-clause-made : goal.returns-clause-made
returns-clause-made c =
    let a = posed_by c.args.question.now in
    let first : HasEdges (graph_of c.args.question.now.before.now) (edges_before (question_of a) (marks_of a)) c.in_ok-before.before =
    before_split a (map comparison_tree c.deref.result.now) (ap (map comparison_tree) c.deref.ensures.value ∙ c.in_ok-tests.ensures.made) c.in_ok-first.first c.in_ok-before.before
    c.in_ok-first.ensures.made c.in_ok-before.ensures.places c.in_ok-before.ensures.made in
    let second : HasEdges (graph_of c.args.question.now.after.now) (edges_after (question_of a) (marks_of a)) c.in_ok-after.after =
    after_split a (map comparison_tree c.deref-2.result.now) (ap (map comparison_tree) c.deref-2.ensures.value ∙ c.in_ok-tests.ensures.made) c.in_ok-second.second c.in_ok-after.after
    c.in_ok-second.ensures.made c.in_ok-after.ensures.places c.in_ok-after.ensures.made in
    record {
      tests = c.in_ok-tests.ensures.made;
      before = first;
      after = second;
      limits = record {
        before_sound = c.in_ok-first.ensures.sound;
        after_sound = c.in_ok-second.ensures.sound;
        before_short = before_short a c.in_ok-before.before first c.in_ok-before.ensures.few;
        after_short = after_short a c.in_ok-after.after second c.in_ok-after.ensures.few;
        tests = c.in_ok-tests.ensures.few;
      };
    }
