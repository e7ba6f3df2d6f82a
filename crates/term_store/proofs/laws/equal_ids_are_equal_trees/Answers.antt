use Rattle.std.proofs.Common.{ap}
use Rattle.term_nodes.specs.NodeTrees.{test_tree_at, tree_at}
use Rattle.term_nodes.proofs.TestTrees.{one_id_a_test}
use Rattle.term_nodes.proofs.TermTrees.{one_id_a_tree}
use Rattle.term_store.proofs.laws.equal_ids_are_equal_trees.Goals as goal

pub returns : goal.returns
returns c store is = record {
  tests = λ i j h k. (ap (test_tree_at store), one_id_a_test store is i j h k);
  terms = λ i j h k. (ap (tree_at store), one_id_a_tree store is i j h k);
}
