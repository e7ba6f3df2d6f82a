use Rattle.term_nodes.proofs.TestTrees.{test_tree_at-node}
use Rattle.term_nodes.proofs.TermTrees.{tree_at-node}
use Rattle.term_store.proofs.laws.trees_by_node.Goals as goal

pub returns : goal.returns
returns c store is = record { tests = test_tree_at-node store is; terms = tree_at-node store is }
