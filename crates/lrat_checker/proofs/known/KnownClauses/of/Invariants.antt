use Rattle.std.proofs.Common.{◌≡◌, ℕ, take}
use Rattle.lrat_checker.specs.Accepted.{numbered}
use Rattle.lrat_checker.specs.Working.KnownClauses.{entry_at}
use Rattle.lrat_checker.proofs.known.KnownClauses.of.Given as goal

abbrev pub invariant-loop-clause : goal.invariant-loop-clause
invariant-loop-clause l = record {
  count : l.greatest ≡ l.clause-index;
  entries : (n : ℕ) → entry_at l.entries n ≡ numbered (take l.clause-index l.clauses) n;
}
