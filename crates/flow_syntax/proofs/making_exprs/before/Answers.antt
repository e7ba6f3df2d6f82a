use Rattle.std.proofs.Common.{◌≡◌, arith}
use Rattle.flow_syntax.proofs.NodeLists.{none_from, before_none}
use Rattle.flow_syntax.proofs.making_exprs.before.Goals as goal

pub returns-then-is_empty : goal.returns-then-is_empty
returns-then-is_empty c =
    let none : c.args.others.len ≡ 0 = none_from c.args.others.len c.if-is_empty.ensures in
    before_none c.args.expr.items c.args.others.items (omega (arith, none, c.args.others.ok.0))
