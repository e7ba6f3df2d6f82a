-- The trees of the graphs of a flow file, in which each expression and each condition is exactly one tree. Nodes that are
-- none or several trees are seen as a tree that has no sort, which no text has.
use Rattle.std.specs.Prelude.{List, [], ◌∷◌, map, Vec}
use Rattle.std.specs.declared.alloc.Global.{Global}
use Rattle.kat_model.specs.declared.expression.Rel.TheVariants.{Eq}
use Rattle.flow_model.specs.declared.graph.ExprNode.{ExprNode}
use Rattle.flow_model.specs.declared.graph.CondNode.{CondNode}
use Rattle.flow_model.specs.declared.graph.CondNode.TheVariants.{Always, Never, Compared, ComparedSigned, Negation, Both, Either}
use Rattle.flow_model.specs.declared.graph.Statement.{Statement}
use Rattle.flow_model.specs.declared.graph.Statement.TheVariants.{Assign, Claim}
use Rattle.flow_model.specs.declared.graph.Jump.{Jump}
use Rattle.flow_model.specs.declared.graph.Jump.TheVariants.{Goto, Branch, Return, Abort}
use Rattle.flow_model.specs.declared.graph.Block.{Block as ABlock}
use Rattle.flow_model.specs.Expressions.{ExprTree, no_arguments}
use Rattle.flow_model.specs.Conditions.{CondTree, always, never, compared, compared_signed}
use Rattle.flow_model.specs.Graphs.{StatementTree, assign, claim, JumpTree, goto, branch, return, abort, Block, Graph}
use Rattle.flow_model.specs.Polish.{exprs_of, CondPart, a_condition, a_negation, a_conjunction, a_disjunction, conds_of}

-- the only tree of a list
abbrev pub only_expr : List ExprTree → ExprTree
only_expr (e ∷ []) = e
only_expr es = no_arguments

abbrev pub expr_of : List ExprNode → ExprTree
expr_of ns = only_expr (exprs_of ns)

abbrev pub only_cond : List CondTree → CondTree
only_cond (b ∷ []) = b
only_cond bs = compared Eq no_arguments no_arguments

abbrev pub cond_part : CondNode → CondPart
cond_part Always = a_condition always
cond_part Never = a_condition never
cond_part (Compared rel e f) = a_condition (compared rel (expr_of e.items) (expr_of f.items))
cond_part (ComparedSigned rel w e f) = a_condition (compared_signed rel w (expr_of e.items) (expr_of f.items))
cond_part Negation = a_negation
cond_part Both = a_conjunction
cond_part Either = a_disjunction

abbrev pub cond_of : List CondNode → CondTree
cond_of ns = only_cond (conds_of (map cond_part ns))

abbrev pub values_of : List (Vec ExprNode Global) → List ExprTree
values_of es = map (λ e. expr_of e.items) es

abbrev pub statement_of : Statement → StatementTree
statement_of (Assign targets values) = assign targets.items (values_of values.items)
statement_of (Claim b) = claim (cond_of b.items)

abbrev pub jump_of : Jump → JumpTree
jump_of (Goto k) = goto k
jump_of (Branch b k l) = branch (cond_of b.items) k l
jump_of (Return values) = return (values_of values.items)
jump_of Abort = abort

abbrev pub block_of : ABlock → Block
block_of b = record { is_cut = b.is_cut; statements = map statement_of b.statements.items; jump = jump_of b.jump }

abbrev pub graph_of : List ABlock → Graph
graph_of bs = map block_of bs
