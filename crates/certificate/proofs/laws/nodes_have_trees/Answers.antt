use Rattle.term_nodes.proofs.TestTrees.{test_tree_represents}
use Rattle.term_nodes.proofs.TermTrees.{tree_represents}
use Rattle.certificate.specs.Certs.{nodes_of}
use Rattle.certificate.proofs.laws.nodes_have_trees.Goals as goal

pub returns : goal.returns
returns call c cert = record { tests = test_tree_represents (nodes_of c) cert.nodes; terms = tree_represents (nodes_of c) cert.nodes }
