use Rattle.std.proofs.Common.{◌≡◌, ℕ, ◌<◌, ◌++◌, map, length}
use Rattle.kat_model.specs.Members.{Has}
use Rattle.cert_checker.specs.Passes.{forbidden_of}
use Rattle.cert_checker.proofs.pass.forbid_targets.Given as goal

-- the remaining targets add their pairs, and the acceptance tests of their terms are known
abbrev pub invariant-loop-term : goal.invariant-loop-term
invariant-loop-term l = record {
  pairs : l.forbidden.items ++ map (forbidden_of l.outputs) l.term-iterator ≡ l.initial.forbidden.items ++ map (forbidden_of l.outputs) l.initial.term-iterator;
  there : (e : ℕ × ℕ) → Has l.term-iterator e → e.0 < length l.outputs;
}
