use Rattle.std.proofs.Common.{◌≡◌, ◌++◌}
use Rattle.walk_pairs.proofs.needed.terms_in_order.Given as goal

abbrev pub invariant-loop-term : goal.invariant-loop-term
invariant-loop-term l = l.terms.keys ++ l.term-iterator ≡ l.all.keys
