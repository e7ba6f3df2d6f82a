use Rattle.std.proofs.Common.{Option, drop}
use Rattle.lrat_checker.specs.Accepted.{Clauses}
use Rattle.lrat_checker.specs.Working.KnownClauses.{Knows}
use Rattle.lrat_checker.specs.Working.Steps.{IsHintsVerdict}
use Rattle.lrat_checker.specs.declared.answer.Reason.{Reason}
use Rattle.lrat_checker.proofs.propagation.hints_reason.Given as goal

abbrev pub invariant-loop-hint : goal.invariant-loop-hint
invariant-loop-hint l =
    (c : Clauses) → Knows l.known c → (v : Option Reason) → IsHintsVerdict c.known l.falses (drop l.hint-index l.hints) l.resolvents v → IsHintsVerdict c.known l.initial.falses l.hints l.resolvents v
