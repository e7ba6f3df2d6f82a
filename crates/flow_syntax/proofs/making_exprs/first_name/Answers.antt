use Rattle.std.proofs.Common.{sym, ap, ◌∙◌}
use Rattle.flow_syntax.specs.Actions.{name_of, first_of}
use Rattle.flow_syntax.specs.SyntaxViews.{first_syntax, node_syntax}
use Rattle.flow_syntax.proofs.NodeLists.{name_at}
use Rattle.flow_syntax.proofs.making_exprs.first_name.Goals as goal

pub loop-node-preserved : goal.loop-node-preserved
loop-node-preserved c =
    c.first_of-first.ensures ∙ ap (λ x. first_of x (first_syntax c.loop-node.first)) c.name_of.ensures ∙ ap (first_of (name_of (node_syntax _))) c.loop-node.invariant
    ∙ sym (name_at c.args.nodes.now c.loop-node.node-index _ c.loop-node-test.true)
