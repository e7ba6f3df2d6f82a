use Rattle.std.proofs.Common.{ap}
use Rattle.std.specs.Prelude.{Vec}
use Rattle.std.specs.declared.alloc.Global.{Global}
use Rattle.flow_model.specs.declared.graph.ExprNode.{ExprNode}
use Rattle.flow_model.specs.WholeGraphs.{is_whole_expr, are_whole_exprs}
use Rattle.flow_matches.proofs.WholeParts.{all_pushed}
use Rattle.flow_matches.proofs.side.one_value.Goals as goal

pub returns-clause-whole : goal.returns-clause-whole
returns-clause-whole c =
    all_pushed (λ (e : Vec ExprNode Global). is_whole_expr e.items) c.new-values.result.items c.push.new.self.items c.in_ok-mark.field-0 c.in_ok-push.ensures.items (ap are_whole_exprs c.new-values.ensures.items) c.in_ok-mark.ensures.whole
