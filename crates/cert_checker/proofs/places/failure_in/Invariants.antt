use Rattle.std.proofs.Common.{◌≡◌, ◌+◌, ℕ, ◌<◌}
use Rattle.cert_checker.specs.Cases.{undecided}
use Rattle.cert_checker.specs.Passes.{IsPass, PassGrows}
use Rattle.cert_checker.proofs.PairPlaces.{HoldsAtEach}
use Rattle.cert_checker.proofs.places.failure_in.Given as goal

-- the processed pairs hold
abbrev pub invariant-loop-pair : goal.invariant-loop-pair
invariant-loop-pair l = record {
  pass : IsPass l.pass;
  grows : PassGrows l.fn.pass l.pass;
  undecided : l.case.decided.items ≡ undecided (l.pass.tables.width + l.pass.tables.width);
  passed : (j : ℕ) → j < l.pair → HoldsAtEach l.fn.pass.problem l.fn.pass.cert l.action_pass.action j;
}
