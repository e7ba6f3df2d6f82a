use Rattle.std.proofs.Common.{sym, subst}
use Rattle.tool_decide.specs.Decide.{IsDecided}
use Rattle.tool_decide.proofs.Decided.{decided}
use Rattle.tool_decide.proofs.decide.decided_reply.Goals as goal

pub returns : goal.returns
returns c = subst (λ s. IsDecided c.args.problem.now s c.in_ok-text.field-0.items) (sym c.evidence_status.ensures) (decided c.args.problem.now c.args.evidence.now c.in_ok-text.field-0.items c.tests.ensures.within c.requires c.in_ok-text.ensures)
