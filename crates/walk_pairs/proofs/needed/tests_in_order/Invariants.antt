use Rattle.std.proofs.Common.{◌≡◌, ◌++◌}
use Rattle.walk_pairs.proofs.needed.tests_in_order.Given as goal

abbrev pub invariant-loop-test : goal.invariant-loop-test
invariant-loop-test l = l.tests.keys ++ l.test-iterator ≡ l.all.keys
