use Rattle.flow_model.specs.Polish.{graph_of}
use Rattle.flow_problem.specs.FlowProblems.{edges_before, edges_after}
use Rattle.flow_abstraction.specs.PosedQuestion.{question_of, marks_of, HasFault}
use Rattle.flow_abstraction.specs.Working.Placed.{of_term_fault}
use Rattle.flow_abstraction.specs.Working.Stages.{posed_by}
use Rattle.flow_abstraction.proofs.Refusals.{refused_as}
use Rattle.flow_abstraction.proofs.SideTerms.{side_small, left_is, right_is, left_refused, right_refused}
use Rattle.flow_abstraction.proofs.parts.sides_of.Goals as goal

pub returns-in_err-left-clause-refused : goal.returns-in_err-left-clause-refused
returns-in_err-left-clause-refused c =
    let e = c.in_err-left.field-0.0 in
    refused_as (HasFault (posed_by c.args.question.now)) (of_term_fault e) c.from_residual.result c.from_residual.ensures.1
    (left_refused (posed_by c.args.question.now) c.args.tables.now c.requires.tables c.args.before.now e c.in_err-left.ensures.refused c.requires.before)

pub returns-in_err-right-clause-refused : goal.returns-in_err-right-clause-refused
returns-in_err-right-clause-refused c =
    let e = c.in_err-right.field-0.0 in
    refused_as (HasFault (posed_by c.args.question.now)) (of_term_fault e) c.from_residual-in_err-right.result c.from_residual-in_err-right.ensures.1
    (right_refused (posed_by c.args.question.now) c.args.tables.now c.requires.tables c.args.after.now e c.in_err-right.ensures.refused c.requires.after)

pub returns-clause-made : goal.returns-clause-made
returns-clause-made c =
    let a = posed_by c.args.question.now in
    let t = c.args.tables.now in
    let has = c.requires.tables in
    record {
      left = left_is a t has c.requires.limits c.args.before.now c.requires.before _ c.in_ok-left.ensures.made;
      right = right_is a t has c.requires.limits c.args.after.now c.requires.after _ c.in_ok-right.ensures.made;
      before_fits = side_small a t has (graph_of c.args.question.now.before.now) (edges_before (question_of a) (marks_of a)) c.args.before.now c.requires.before c.in_ok-left.ensures.fits;
      after_fits = side_small a t has (graph_of c.args.question.now.after.now) (edges_after (question_of a) (marks_of a)) c.args.after.now c.requires.after c.in_ok-right.ensures.fits;
    }
