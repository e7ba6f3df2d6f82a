use Rattle.std.proofs.Common.{◌≡◌, ◌++◌, drop}
use Rattle.walk_pairs.specs.Numbering.{test_nodes_of}
use Rattle.walk_pairs.proofs.cert.test_nodes.Given as goal

abbrev pub invariant-loop-test : goal.invariant-loop-test
invariant-loop-test l = l.nodes.items ++ test_nodes_of l.store l.tests.keys (drop l.test-index l.ids) ≡ test_nodes_of l.store l.tests.keys l.tests.keys
