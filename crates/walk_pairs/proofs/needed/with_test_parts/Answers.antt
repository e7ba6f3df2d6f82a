use Rattle.std.proofs.Common.{ℕ, sym, subst}
use Rattle.std.proofs.lemmas.Bool.{false≢true}
use Rattle.term_nodes.specs.declared.TestNode.{TestNode}
use Rattle.term_nodes.specs.Nodes.{test_parts}
use Rattle.term_nodes.proofs.Parts.{IsTestOver-part}
use Rattle.kat_model.proofs.NumberKeys.{last_has, none_left}
use Rattle.walk_pairs.proofs.PartSets.{IsGathering, gathering_starts, gathering_goes_on, gathering_falls, gathering_ends}
use Rattle.walk_pairs.proofs.SortedKeys.{sorted_ascending}
use Rattle.walk_pairs.proofs.needed.with_test_parts.Goals as goal

pub loop-test-init : goal.loop-test-init
loop-test-init c =
    record {
      gathers = subst (IsGathering (TestNode ℕ) c.args.store.now.tests test_parts c.args.pending.keys c.args.pending.keys) (sym c.new-all.ensures.empty) (gathering_starts (TestNode ℕ) c.args.store.now.tests test_parts c.args.pending.keys c.requires);
      ordered = c.new-all.ensures.ordered;
    }

pub test_shape-requires : goal.test_shape-requires
test_shape-requires c = c.loop-test.invariant.gathers.pending_there c.in-Some.test (last_has c.loop-test.pending.keys c.pop_last.new.self.keys c.in-Some.test c.in-Some.ensures.removal)

pub loop-test-smaller : goal.loop-test-smaller
loop-test-smaller c =
    gathering_falls (TestNode ℕ) c.args.store.now.tests test_parts c.args.pending.keys c.loop-test.pending.keys c.pop_last.new.self.keys c.add_test_parts.new.set.keys c.loop-test.all.keys c.in-Some.test c.test_shape.result
    c.loop-test.invariant.gathers c.in-Some.ensures.removal c.in-Some.ensures.all_below c.test_shape.ensures.value (IsTestOver-part c.in-Some.test c.test_shape.result c.test_shape.ensures.parts) c.in_ok-add_test_parts.ensures

pub loop-test-preserved : goal.loop-test-preserved
loop-test-preserved c =
    record {
      gathers =
          gathering_goes_on (TestNode ℕ) c.args.store.now.tests test_parts c.args.pending.keys c.loop-test.pending.keys c.pop_last.new.self.keys c.add_test_parts.new.set.keys c.loop-test.all.keys c.in-Some.test c.test_shape.result
          c.loop-test.invariant.gathers c.in-Some.ensures.removal c.in-Some.ensures.all_below c.test_shape.ensures.value (IsTestOver-part c.in-Some.test c.test_shape.result c.test_shape.ensures.parts) c.in_ok-add_test_parts.ensures
          c.insert.new.self.keys c.in_ok-insert.ensures.keys;
      ordered = c.in_ok-insert.ensures.ordered;
    }

pub returns : goal.returns
returns c =
    let empty = none_left c.loop-test.pending.keys (λ h. absurd (false≢true (c.in_default.ensures.variant.1 h))) in
    gathering_ends (TestNode ℕ) c.args.store.now.tests test_parts c.args.pending.keys c.loop-test.all.keys (sorted_ascending c.loop-test.all.keys c.loop-test.invariant.ordered)
    (subst (λ p. IsGathering (TestNode ℕ) c.args.store.now.tests test_parts c.args.pending.keys p c.loop-test.all.keys) empty c.loop-test.invariant.gathers)
