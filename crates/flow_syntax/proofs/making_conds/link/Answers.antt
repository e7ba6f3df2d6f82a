use Rattle.std.proofs.Common.{◌≡◌, arith}
use Rattle.flow_syntax.specs.SyntaxViews.{cond_node_syntax, cond_syntax}
use Rattle.flow_syntax.proofs.NodeLists.{none_from, linked_none}
use Rattle.flow_syntax.proofs.making_conds.link.Goals as goal

pub returns-then-is_empty : goal.returns-then-is_empty
returns-then-is_empty c =
    let none : c.args.others.len ≡ 0 = none_from c.args.others.len c.if-is_empty.ensures in
    linked_none (cond_node_syntax c.args.node) (cond_syntax c.args.cond.items) c.args.others.items (omega (arith, none, c.args.others.ok.0))
