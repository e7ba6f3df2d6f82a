use Rattle.flow_abstraction.specs.PosedQuestion.{HasFault}
use Rattle.flow_abstraction.specs.Working.Placed.{of_hypothesis_fault}
use Rattle.flow_abstraction.specs.Working.Stages.{posed_by}
use Rattle.flow_abstraction.proofs.Refusals.{refused_as}
use Rattle.flow_abstraction.proofs.SideTerms.{hypotheses_refused, reasons_are}
use Rattle.flow_abstraction.proofs.hypotheses.reasons_of.Goals as goal

pub returns-in_err-list-clause-refused : goal.returns-in_err-list-clause-refused
returns-in_err-list-clause-refused c =
    let e = c.in_err-list.field-0.0 in
    refused_as (HasFault (posed_by c.args.question.now)) (of_hypothesis_fault e) c.from_residual.result c.from_residual.ensures.1
    (hypotheses_refused (posed_by c.args.question.now) c.args.tables.now c.requires c.deref.result.now c.deref-2.result.now c.deref.ensures.value c.deref-2.ensures.value e c.in_err-list.ensures.many)

pub returns-clause-made : goal.returns-clause-made
returns-clause-made c =
    reasons_are (posed_by c.args.question.now) c.args.tables.now c.requires c.deref.result.now c.deref-2.result.now c.deref.ensures.value c.deref-2.ensures.value
    c.in_ok-list.list.items c.in_ok-rules_and_terms.field-0 c.in_ok-list.ensures.made c.in_ok-list.ensures.few c.in_ok-rules_and_terms.ensures.rules c.in_ok-rules_and_terms.ensures.terms
