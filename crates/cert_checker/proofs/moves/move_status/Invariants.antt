use Rattle.std.proofs.Common.{take}
use Rattle.cert_checker.proofs.MoveTurns.{IsGiven}
use Rattle.cert_checker.proofs.moves.move_status.Given as goal

abbrev pub invariant-loop-from : goal.invariant-loop-from
invariant-loop-from l = IsGiven l.question l.case (take l.from-index l.question.action_pass.forbidden) l.tied l.waiting
