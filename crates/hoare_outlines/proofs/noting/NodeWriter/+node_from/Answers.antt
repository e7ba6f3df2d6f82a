use Rattle.std.proofs.Common.{◌≡◌, ◌∙◌, ◌+◌, ◌<◌, List, length, false, true, refl, sym, subst, arith, rules}
use Rattle.std.proofs.lemmas.Result.{IfOk-weaker}
use Rattle.outline_rules.proofs.StepSets.{KeepsSteps-itself, KeepsSteps-trans}
use Rattle.outline_rules.specs.declared.notes.NoteNode.{NoteNode}
use Rattle.outline_rules.specs.declared.notes.NoteNode.TheVariants.{Branch}
use Rattle.hoare_outlines.specs.Working.Noted.{IsNodeFor, AreNoteNodes}
use Rattle.hoare_outlines.proofs.Dependences.{from_kept, fixed_from}
use Rattle.hoare_outlines.proofs.NodeLists.{adds_one, adds_longer}
use Rattle.hoare_outlines.proofs.NodesFor.{same_for, branch_for}
use Rattle.hoare_outlines.proofs.Writers.{writer_kept, writer_branch}
use Rattle.hoare_outlines.proofs.noting.NodeWriter.+node_from.Goals as goal

pub node_from-requires : goal.node_from-requires
node_from-requires t c =
    let tests = c.in_ok-high.ensures.kept.tests ∙ c.in_ok-low.ensures.kept.tests in (
      omega (arith, c.decreases, tests, c.tests.ensures.tests, c.if-test-tests.false),
      (
        from_kept c.fix.new.self c.fix-2.new.self (c.args.test + 1) c.in_ok-low.low c.in_ok-high.ensures.kept (fixed_from c.args.diagrams.now c.fix.new.self c.args.test (c.args.test + 1) false c.args.set c.in_ok-low.low c.in_ok-low.ensures.kept refl c.requires.set c.in_ok-low.ensures.function),
        (omega (arith, tests, c.tests.ensures.tests, c.if-test-tests.false), writer_kept c.args.diagrams.now c.fix-2.new.self c.args.self.now (KeepsSteps-trans c.args.diagrams.now c.fix.new.self c.fix-2.new.self c.in_ok-low.ensures.kept c.in_ok-high.ensures.kept) c.requires.writer),
      ),
    )

pub node_from-requires-2 : goal.node_from-requires-2
node_from-requires-2 t c =
    let tests = c.in_ok-high.ensures.kept.tests ∙ c.in_ok-low.ensures.kept.tests in (
      omega (arith, c.decreases, tests, c.tests.ensures.tests, c.if-test-tests.false),
      (
        from_kept c.fix.new.self c.fix-2.new.self (c.args.test + 1) c.in_ok-low.low c.in_ok-high.ensures.kept (fixed_from c.args.diagrams.now c.fix.new.self c.args.test (c.args.test + 1) false c.args.set c.in_ok-low.low c.in_ok-low.ensures.kept refl c.requires.set c.in_ok-low.ensures.function),
        (omega (arith, tests, c.tests.ensures.tests, c.if-test-tests.false), writer_kept c.args.diagrams.now c.fix-2.new.self c.args.self.now (KeepsSteps-trans c.args.diagrams.now c.fix.new.self c.fix-2.new.self c.in_ok-low.ensures.kept c.in_ok-high.ensures.kept) c.requires.writer),
      ),
    )

pub node_from-requires-3 : goal.node_from-requires-3
node_from-requires-3 t c =
    let tests = c.in_ok-where_false.ensures.kept.tests ∙ c.in_ok-high.ensures.kept.tests ∙ c.in_ok-low.ensures.kept.tests in
    let next = c.args.test + 1 in
    let own = from_kept c.args.diagrams.now c.fix.new.self c.args.test c.args.set c.in_ok-low.ensures.kept c.requires.set in (
      omega (arith, c.decreases, tests, c.tests.ensures.tests, c.if-test-tests.false),
      (
        from_kept c.fix-2.new.self c.node_from-2.new.diagrams next c.in_ok-high.high c.in_ok-where_false.ensures.kept (fixed_from c.fix.new.self c.fix-2.new.self c.args.test next true c.args.set c.in_ok-high.high c.in_ok-high.ensures.kept refl own c.in_ok-high.ensures.function),
        (omega (arith, tests, c.tests.ensures.tests, c.if-test-tests.false), c.in_ok-where_false.ensures.writer),
      ),
    )

pub returns-then-eq-clause-node : goal.returns-then-eq-clause-node
returns-then-eq-clause-node t c =
    let same : c.in_ok-low.low ≡ c.in_ok-high.high = search rules in
    IfOk-weaker c.node_from.result _ _
    (λ k found.
    same_for c.args.diagrams.now c.fix.new.self c.fix-2.new.self c.node_from.new.diagrams c.args.test c.args.set c.in_ok-low.low c.in_ok-high.high k c.node_from.new.self.nodes.keys c.in_ok-low.ensures.kept c.in_ok-high.ensures.kept c.node_from.ensures.kept
    c.requires.set.is_set.in_range c.in_ok-low.ensures.function c.in_ok-high.ensures.function same found)
    c.node_from.ensures.node

pub returns-clause-writer : goal.returns-clause-writer
returns-clause-writer t c =
    let d = c.node_from-3.new.diagrams in
    let before = c.node_from-2.new.self.nodes.keys in
    let all = c.node_from-3.new.self in
    let nodes = c.node.new.self.nodes.keys in
    let low = c.in_ok-where_false.where_false in
    let high = c.in_ok-where_true.where_true in
    let longer = adds_longer before all.nodes.keys c.in_ok-where_true.ensures.adds in
    let low_in : low < length all.nodes.keys = omega (arith, longer, c.in_ok-where_false.ensures.node.is_node) in
    let tests = c.in_ok-where_true.ensures.kept.tests ∙ c.in_ok-where_false.ensures.kept.tests ∙ c.in_ok-high.ensures.kept.tests ∙ c.in_ok-low.ensures.kept.tests in
    let lt : c.args.test < d.tests = omega (arith, tests, c.tests.ensures.tests, c.if-test-tests.false) in
    let w = writer_branch d d all c.node.new.self c.args.test low high (KeepsSteps-itself d) c.in_ok-node.ensures.added c.in_ok-node.ensures.once lt low_in c.in_ok-where_true.ensures.node.is_node c.in_ok-node.ensures.known c.in_ok-where_true.ensures.writer in
    let found =
    branch_for c.args.diagrams.now c.fix.new.self c.fix-2.new.self c.node_from-2.new.diagrams d c.args.test c.args.set c.in_ok-low.low c.in_ok-high.high low high c.in_ok-node.node before all.nodes.keys nodes c.in_ok-low.ensures.kept c.in_ok-high.ensures.kept
    c.in_ok-where_false.ensures.kept c.in_ok-where_true.ensures.kept c.requires.set.is_set.in_range c.in_ok-low.ensures.function c.in_ok-high.ensures.function c.in_ok-where_false.ensures.node c.in_ok-where_true.ensures.node c.in_ok-where_true.ensures.adds
    (adds_one all.nodes.keys nodes (Branch c.args.test low high) c.in_ok-node.ensures.added) w.nodes c.in_ok-node.ensures.number in
    record {
      nodes = subst (λ (l : List NoteNode). AreNoteNodes d.tests l) (sym c.remember.ensures.nodes) w.nodes;
      known = c.in_ok-remember.ensures.known d w.known found;
    }

pub returns-clause-node : goal.returns-clause-node
returns-clause-node t c =
    let d = c.node_from-3.new.diagrams in
    let before = c.node_from-2.new.self.nodes.keys in
    let all = c.node_from-3.new.self in
    let nodes = c.node.new.self.nodes.keys in
    let low = c.in_ok-where_false.where_false in
    let high = c.in_ok-where_true.where_true in
    let rules_kept = subst (λ (l : List NoteNode). AreNoteNodes d.tests l) c.remember.ensures.nodes (returns-clause-writer t c).nodes in
    let found =
    branch_for c.args.diagrams.now c.fix.new.self c.fix-2.new.self c.node_from-2.new.diagrams d c.args.test c.args.set c.in_ok-low.low c.in_ok-high.high low high c.in_ok-node.node before all.nodes.keys nodes c.in_ok-low.ensures.kept c.in_ok-high.ensures.kept
    c.in_ok-where_false.ensures.kept c.in_ok-where_true.ensures.kept c.requires.set.is_set.in_range c.in_ok-low.ensures.function c.in_ok-high.ensures.function c.in_ok-where_false.ensures.node c.in_ok-where_true.ensures.node c.in_ok-where_true.ensures.adds
    (adds_one all.nodes.keys nodes (Branch c.args.test low high) c.in_ok-node.ensures.added) rules_kept c.in_ok-node.ensures.number in
    subst (λ (l : List NoteNode). IsNodeFor d l c.args.set c.in_ok-node.node) (sym c.remember.ensures.nodes) found

pub returns-clause-kept : goal.returns-clause-kept
returns-clause-kept t c =
    let d = c.node_from-3.new.diagrams in
    let later = KeepsSteps-trans c.fix-2.new.self c.node_from-2.new.diagrams d c.in_ok-where_false.ensures.kept c.in_ok-where_true.ensures.kept in
    KeepsSteps-trans c.args.diagrams.now c.fix.new.self d c.in_ok-low.ensures.kept (KeepsSteps-trans c.fix.new.self c.fix-2.new.self d c.in_ok-high.ensures.kept later)
