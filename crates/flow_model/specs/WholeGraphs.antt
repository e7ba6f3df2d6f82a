-- Graphs of the program whose expressions and conditions in Polish notation are one tree each.
use Rattle.std.specs.Prelude.{◌≡◌, Bool, true, ◌&&◌, nat_eq, List, length, map, Vec}
use Rattle.std.specs.List.{list_all}
use Rattle.std.specs.declared.alloc.Global.{Global}
use Rattle.flow_model.specs.declared.graph.ExprNode.{ExprNode}
use Rattle.flow_model.specs.declared.graph.CondNode.{CondNode}
use Rattle.flow_model.specs.declared.graph.CondNode.TheVariants.{Compared, ComparedSigned}
use Rattle.flow_model.specs.declared.graph.Statement.{Statement}
use Rattle.flow_model.specs.declared.graph.Statement.TheVariants.{Assign, Claim}
use Rattle.flow_model.specs.declared.graph.Jump.{Jump}
use Rattle.flow_model.specs.declared.graph.Jump.TheVariants.{Goto, Branch, Return, Abort}
use Rattle.flow_model.specs.declared.graph.Block.{Block}
use Rattle.flow_model.specs.Polish.{exprs_of, conds_of, cond_part}

abbrev pub is_whole_expr : List ExprNode → Bool
is_whole_expr ns = nat_eq (length (exprs_of ns)) 1

abbrev pub are_whole_exprs : List (Vec ExprNode Global) → Bool
are_whole_exprs es = list_all (λ e. is_whole_expr e.items) es

abbrev pub has_whole_sides : CondNode → Bool
has_whole_sides (Compared rel e f) = is_whole_expr e.items && is_whole_expr f.items
has_whole_sides (ComparedSigned rel w e f) = is_whole_expr e.items && is_whole_expr f.items
has_whole_sides _ = true

abbrev pub is_whole_cond : List CondNode → Bool
is_whole_cond ns = nat_eq (length (conds_of (map cond_part ns))) 1 && list_all has_whole_sides ns

abbrev pub is_whole_statement : Statement → Bool
is_whole_statement (Assign targets es) = are_whole_exprs es.items
is_whole_statement (Claim b) = is_whole_cond b.items

abbrev pub is_whole_jump : Jump → Bool
is_whole_jump (Goto k) = true
is_whole_jump (Branch b k l) = is_whole_cond b.items
is_whole_jump (Return es) = are_whole_exprs es.items
is_whole_jump Abort = true

abbrev pub is_whole_block : Block → Bool
is_whole_block b = list_all is_whole_statement b.statements.items && is_whole_jump b.jump

abbrev pub are_whole_blocks : List Block → Bool
are_whole_blocks bs = list_all is_whole_block bs

abbrev pub IsWholeGraph : Vec Block Global → Type 0
IsWholeGraph g = are_whole_blocks g.items ≡ true
