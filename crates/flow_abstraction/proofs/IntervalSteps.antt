-- Steps along the intervals of tests.
use Rattle.std.proofs.Common.{◌≡◌, ℕ, Bool, false, ◌&&◌, cond, nat_lt, List, [], Option, Some, ap, sym}
use Rattle.flow_problem.specs.FlowFacts.{FlowHypothesis, Interval, is_same_interval_form}
use Rattle.flow_abstraction.specs.CappedLists.{capped}
use Rattle.flow_abstraction.specs.FactLists.{third_interval}

none_if : (n : ℕ) (old xs : List FlowHypothesis) (b : Bool) → b ≡ false → old ≡ capped n old (cond b xs [])
none_if n old xs b e = ap (λ v. capped n old (cond v xs [])) (sym e)

module _ (n i j k : ℕ) (a b c : Interval) (old : List FlowHypothesis) where
  -- a third test that is not further has no facts
  pub no_third : (o : Option Interval) → o ≡ Some c → (nat_lt j k && is_same_interval_form a c) ≡ false → old ≡ capped n old (third_interval i j a b (k, o))
  no_third o e f = rw e (none_if n old _ (nat_lt j k && is_same_interval_form a c) f)
