use Rattle.std.proofs.Common.{◌≡◌, suc, length, drop}
use Rattle.string_tables.specs.Findings.{misfit_from}
use Rattle.string_tables.proofs.shape.misfit.Given as goal

-- no position so far is a misfit
abbrev pub invariant-loop-k : goal.invariant-loop-k
invariant-loop-k l = record {
  first : length l.string.first ≡ l.problem.tests;
  rest : misfit_from l.problem.tests l.problem.actions 1 l.string.rest ≡ misfit_from l.problem.tests l.problem.actions (suc l.k) (drop l.k l.string.rest);
}
