use Rattle.std.proofs.Common.{sym, subst}
use Rattle.tool_decide.specs.DecideJson.{IsReported}
use Rattle.tool_decide.proofs.Decided.{reported}
use Rattle.tool_decide.proofs.report.report_reply.Goals as goal

pub returns : goal.returns
returns c =
    subst (λ s. IsReported c.args.problem.now s c.in_ok-json_report.field-0.items) (sym c.evidence_status.ensures)
    (reported c.args.problem.now c.in_ok-evidence.evidence c.in_ok-json_report.field-0.items c.tests.ensures.within c.in_ok-evidence.ensures c.know_numbers.ensures c.in_ok-json_report.ensures)
