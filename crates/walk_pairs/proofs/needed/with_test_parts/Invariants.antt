use Rattle.std.proofs.Common.{ℕ}
use Rattle.std.specs.List.Sorted.{IsStrictlySortedBy}
use Rattle.std.specs.Ordering.{nat_cmp}
use Rattle.term_nodes.specs.declared.TestNode.{TestNode}
use Rattle.term_nodes.specs.Nodes.{test_parts}
use Rattle.kat_model.proofs.NumberKeys.{bound_of}
use Rattle.walk_pairs.proofs.PartSets.{IsGathering}
use Rattle.walk_pairs.proofs.needed.with_test_parts.Given as goal

abbrev pub invariant-loop-test : goal.invariant-loop-test
invariant-loop-test l = record {
  gathers : IsGathering (TestNode ℕ) l.store.tests test_parts l.fn.pending.keys l.pending.keys l.all.keys;
  ordered : IsStrictlySortedBy nat_cmp l.all.keys;
}

-- the greatest pending id decreases
abbrev pub decreases-loop-test : goal.decreases-loop-test
decreases-loop-test l = bound_of l.pending.keys
