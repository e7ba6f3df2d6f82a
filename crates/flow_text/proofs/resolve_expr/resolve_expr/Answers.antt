use Rattle.std.specs.Prelude.{Vec}
use Rattle.std.specs.declared.alloc.Global.{Global}
use Rattle.flow_model.specs.declared.graph.ExprNode.{ExprNode}
use Rattle.flow_text.specs.Trees.{expr_of}
use Rattle.flow_text.proofs.ProgramResults.{makes_seen}
use Rattle.flow_text.proofs.resolve_expr.resolve_expr.Goals as goal

pub returns : goal.returns
returns c = makes_seen (λ (v : Vec ExprNode Global). v.items) expr_of _ _ c.resolve.ensures
