-- Parts of a side whose expressions and conditions in Polish notation are one tree each.
use Rattle.std.specs.Prelude.{◌≡◌, Bool, true, ◌&&◌, List, Vec}
use Rattle.std.specs.List.{list_all}
use Rattle.std.specs.declared.alloc.Global.{Global}
use Rattle.flow_model.specs.declared.graph.ExprNode.{ExprNode}
use Rattle.flow_model.specs.declared.graph.Statement.{Statement}
use Rattle.flow_model.specs.declared.graph.Block.{Block}
use Rattle.flow_model.specs.WholeGraphs.{are_whole_exprs, is_whole_cond, is_whole_statement, are_whole_blocks}
use Rattle.flow_matches.specs.declared.leaves.Leave.{Leave}
use Rattle.flow_matches.specs.declared.side.Side.{Side}

abbrev pub are_whole_statements : List Statement → Bool
are_whole_statements ss = list_all is_whole_statement ss

abbrev pub is_whole_leave : Leave → Bool
is_whole_leave l = is_whole_cond l.condition.items && are_whole_exprs l.results.items

abbrev pub are_whole_leaves : List Leave → Bool
are_whole_leaves ls = list_all is_whole_leave ls

abbrev pub are_all_whole_leaves : List (Vec Leave Global) → Bool
are_all_whole_leaves ls = list_all (λ l. are_whole_leaves l.items) ls

pub record IsWholeSide (side : Side) : Type 0 where
  pub opening : are_whole_statements side.opening.items ≡ true
  pub leaves : are_all_whole_leaves side.leaves.items ≡ true

-- what is added to the expressions is whole
abbrev pub AddsWholeExprs : Vec (Vec ExprNode Global) Global → Vec (Vec ExprNode Global) Global → Type 0
AddsWholeExprs old new = are_whole_exprs old.items ≡ true → are_whole_exprs new.items ≡ true

-- what is added to the blocks is whole
abbrev pub AddsWholeBlocks : Vec Block Global → Vec Block Global → Type 0
AddsWholeBlocks old new = are_whole_blocks old.items ≡ true → are_whole_blocks new.items ≡ true
