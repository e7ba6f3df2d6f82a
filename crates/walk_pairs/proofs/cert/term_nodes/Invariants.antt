use Rattle.std.proofs.Common.{◌≡◌, ◌++◌, drop}
use Rattle.walk_pairs.specs.Numbering.{term_nodes_of}
use Rattle.walk_pairs.proofs.cert.term_nodes.Given as goal

abbrev pub invariant-loop-term : goal.invariant-loop-term
invariant-loop-term l = l.nodes.items ++ term_nodes_of l.store l.tests.keys l.terms.keys (drop l.term-index l.ids) ≡ term_nodes_of l.store l.tests.keys l.terms.keys l.terms.keys
