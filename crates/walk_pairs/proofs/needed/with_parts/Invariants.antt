use Rattle.std.proofs.Common.{ℕ}
use Rattle.std.specs.List.Sorted.{IsStrictlySortedBy}
use Rattle.std.specs.Ordering.{nat_cmp}
use Rattle.term_nodes.specs.declared.TermNode.{TermNode}
use Rattle.term_nodes.specs.Nodes.{term_parts}
use Rattle.kat_model.proofs.NumberKeys.{bound_of}
use Rattle.walk_pairs.proofs.PartSets.{IsGathering}
use Rattle.walk_pairs.proofs.needed.with_parts.Given as goal

abbrev pub invariant-loop-term : goal.invariant-loop-term
invariant-loop-term l = record {
  gathers : IsGathering (TermNode ℕ ℕ) l.store.terms term_parts l.fn.pending.keys l.pending.keys l.all.keys;
  ordered : IsStrictlySortedBy nat_cmp l.all.keys;
}

-- the greatest pending id decreases
abbrev pub decreases-loop-term : goal.decreases-loop-term
decreases-loop-term l = bound_of l.pending.keys
