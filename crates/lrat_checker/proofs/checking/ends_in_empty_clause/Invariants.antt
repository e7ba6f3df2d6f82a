use Rattle.std.proofs.Common.{◌≡◌, drop}
use Rattle.lrat_checker.specs.Working.Steps.{ends_empty}
use Rattle.lrat_checker.proofs.checking.ends_in_empty_clause.Given as goal

abbrev pub invariant-loop-line : goal.invariant-loop-line
invariant-loop-line l = ends_empty l.is_empty (drop l.line-index l.lines) ≡ ends_empty l.initial.is_empty l.lines
