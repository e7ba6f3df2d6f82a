use Rattle.std.proofs.Common.{take}
use Rattle.lrat_checker.specs.Accepted.{given, after_lines, AreRight}
use Rattle.lrat_checker.specs.Working.KnownClauses.{Knows}
use Rattle.lrat_checker.proofs.checking.answer_of.Given as goal

abbrev pub invariant-loop-place : goal.invariant-loop-place
invariant-loop-place l = record {
  knows : Knows l.known (after_lines (given l.clauses) (take l.place l.lines));
  right : AreRight (given l.clauses) (take l.place l.lines);
}
