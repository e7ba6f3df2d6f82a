use Rattle.std.proofs.Common.{◌≡◌, ◌<◌, ◌∙◌, ℕ, [], All, length, sym, ap, subst, arith}
use Rattle.std.proofs.lemmas.List.{length-take-le, take_all}
use Rattle.outline_rules.specs.StepFunctions.{IsStepId}
use Rattle.outline_rules.proofs.StepSets.{KeepsSteps-itself, KeepsSteps-trans}
use Rattle.outline_rules.specs.Follows.{HasTests}
use Rattle.outline_rules.specs.Working.Sets.{AreNodeSets}
use Rattle.outline_rules.proofs.NodeSets.{sets_none, sets_next, parts_in_range}
use Rattle.outline_rules.proofs.checking.node_sets.Goals as goal

pub loop-node-init : goal.loop-node-init
loop-node-init c = record {
  sets = subst (λ l. AreNodeSets c.args.diagrams.now c.args.moment [] l) (sym c.new-sets.ensures.items) (sets_none c.args.diagrams.now c.args.moment);
  kept = KeepsSteps-itself c.args.diagrams.now;
  sound = c.requires.sound;
}

pub node_set-requires-clause-node : goal.node_set-requires-clause-node
node_set-requires-clause-node c =
    let items = c.nodes-node-items.result.now in
    let i : ℕ = c.loop-node.node-index in
    let lt : i < length items = c.loop-node-test.true in
    let count : length c.deref.result.now ≡ i = ap length c.deref.ensures.value ∙ c.loop-node.invariant.sets.count ∙ length-take-le i items (omega (arith, lt)) in
    parts_in_range c.loop-node.diagrams.tests (length c.deref.result.now) c.args.notes.now items i c.nodes-node-items.ensures.rules (subst (λ n. HasTests n c.args.notes.now.nodes) (sym c.loop-node.invariant.kept.tests) c.requires.tests) c.nodes-node-items.ensures.value lt count

pub returns-in_err-set-clause-kept : goal.returns-in_err-set-clause-kept
returns-in_err-set-clause-kept c = KeepsSteps-trans _ _ _ c.loop-node.invariant.kept c.in_err-set.ensures.kept

pub returns-in_err-push-clause-kept : goal.returns-in_err-push-clause-kept
returns-in_err-push-clause-kept c = KeepsSteps-trans _ _ _ c.loop-node.invariant.kept c.in_ok-set.ensures.kept

pub loop-node-preserved : goal.loop-node-preserved
loop-node-preserved c = record {
  sets = sets_next c.loop-node.diagrams c.node_set.new.diagrams c.args.moment c.nodes-node-items.result.now c.loop-node.sets.items c.deref.result.now c.push.new.self.items c.loop-node.node-index c.in_ok-set.set
      c.in_ok-set.ensures.kept c.loop-node-test.true c.deref.ensures.value c.in_ok-push.ensures.items c.loop-node.invariant.sets c.in_ok-set.ensures.function;
  kept = KeepsSteps-trans _ _ _ c.loop-node.invariant.kept c.in_ok-set.ensures.kept;
  sound = c.in_ok-set.ensures.sound;
}

pub node_set-requires-clause-earlier : goal.node_set-requires-clause-earlier
node_set-requires-clause-earlier c = subst (λ ids. All (IsStepId c.loop-node.diagrams) ids) (sym c.deref.ensures.value) c.loop-node.invariant.sets.in_range

pub returns-clause-sets : goal.returns-clause-sets
returns-clause-sets c =
    subst (λ nodes. AreNodeSets c.loop-node.diagrams c.args.moment nodes c.loop-node.sets.items)
    (take_all c.loop-node.node-index c.nodes-node-items.result.now c.loop-node-test.false ∙ c.nodes-node-items.ensures.value) c.loop-node.invariant.sets
