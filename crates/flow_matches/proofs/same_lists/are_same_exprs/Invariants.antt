use Rattle.std.proofs.Common.{◌≡◌, length, map}
use Rattle.std.specs.Prelude.{Vec}
use Rattle.std.specs.declared.alloc.Global.{Global}
use Rattle.std.specs.Cmp.Lexicographic.{pointwise}
use Rattle.flow_model.specs.declared.graph.ExprNode.{ExprNode}
use Rattle.flow_model.specs.Polish.{expr_of}
use Rattle.flow_pieces.specs.SameTrees.{is_same_expr}
use Rattle.flow_matches.proofs.same_lists.are_same_exprs.Given as goal

-- the remaining items decide
abbrev pub invariant-loop-one : goal.invariant-loop-one
invariant-loop-one l = record {
  lengths : length l.one-iterator.a.rest.now ≡ length l.one-iterator.b.rest.now;
  rest : pointwise is_same_expr (map (λ (e : Vec ExprNode Global). expr_of e.items) l.one-iterator.a.rest.now) (map (λ (e : Vec ExprNode Global). expr_of e.items) l.one-iterator.b.rest.now) ≡ pointwise is_same_expr (map (λ (e : Vec ExprNode Global). expr_of e.items) l.left) (map (λ (e : Vec ExprNode Global). expr_of e.items) l.right);
}
