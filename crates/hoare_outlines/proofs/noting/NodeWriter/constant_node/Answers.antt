use Rattle.std.proofs.lemmas.Result.{IfOk-weaker}
use Rattle.hoare_outlines.proofs.NodesFor.{true_for, false_for}
use Rattle.hoare_outlines.proofs.Writers.{writer_true, writer_false}
use Rattle.hoare_outlines.proofs.noting.NodeWriter.constant_node.Goals as goal

pub returns-then-branch-clause-node : goal.returns-then-branch-clause-node
returns-then-branch-clause-node c =
    IfOk-weaker c.node.result _ _
    (λ k at. true_for c.args.diagrams.now c.entails.new.self c.constant-always.result c.args.set k c.node.new.self.nodes.keys c.in_ok-entails.ensures.kept c.requires.set.is_set.in_range c.constant-always.ensures.function (c.in_ok-entails.ensures.entails.0 c.if-branch.true) at)
    c.node.ensures.number

pub returns-then-branch-clause-writer : goal.returns-then-branch-clause-writer
returns-then-branch-clause-writer c =
    IfOk-weaker c.node.result _ _ (λ k adds. writer_true c.args.diagrams.now c.entails.new.self c.args.self.now c.node.new.self c.in_ok-entails.ensures.kept adds c.node.ensures.once c.node.ensures.known c.requires.writer) c.node.ensures.added

pub returns-clause-node : goal.returns-clause-node
returns-clause-node c =
    IfOk-weaker c.node-2.result _ _
    (λ k at. false_for c.args.diagrams.now c.entails.new.self c.constant-always.result c.args.set k c.node-2.new.self.nodes.keys c.in_ok-entails.ensures.kept c.requires.set c.constant-always.ensures.function
    (λ en. let yes = c.in_ok-entails.ensures.entails.1 en in let no = c.if-branch.false in cc) at)
    c.node-2.ensures.number

pub returns-clause-writer : goal.returns-clause-writer
returns-clause-writer c =
    IfOk-weaker c.node-2.result _ _ (λ k adds. writer_false c.args.diagrams.now c.entails.new.self c.args.self.now c.node-2.new.self c.in_ok-entails.ensures.kept adds c.node-2.ensures.once c.node-2.ensures.known c.requires.writer) c.node-2.ensures.added
