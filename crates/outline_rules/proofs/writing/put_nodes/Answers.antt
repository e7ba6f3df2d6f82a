use Rattle.outline_rules.specs.declared.line.NoteLine.TheVariants.{Node}
use Rattle.outline_rules.proofs.Written.{lines_more, lines_done}
use Rattle.outline_rules.proofs.writing.put_nodes.Goals as goal

pub loop-node-preserved : goal.loop-node-preserved
loop-node-preserved c =
    lines_more Node c.args.out.now.items c.loop-node.out.items c.args.nodes.now c.loop-node.node-index c.loop-node.invariant
    c.put_node.new.out.items _ c.loop-node-test.true c.in_ok-put_node.ensures

pub returns : goal.returns
returns c = lines_done Node c.args.out.now.items c.loop-node.out.items c.args.nodes.now c.loop-node.node-index c.loop-node.invariant c.loop-node-test.false
