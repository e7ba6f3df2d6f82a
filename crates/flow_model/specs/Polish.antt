-- The trees of expressions, conditions and graphs in Polish notation.
use Rattle.std.specs.Prelude.{ℕ, zero, suc, List, [], ◌∷◌, map, drop, Vec}
use Rattle.std.specs.declared.alloc.Global.{Global}
use Rattle.flow_model.specs.declared.graph.ExprNode.{ExprNode}
use Rattle.flow_model.specs.declared.graph.ExprNode.TheVariants as node
use Rattle.flow_model.specs.declared.graph.CondNode.{CondNode}
use Rattle.flow_model.specs.declared.graph.CondNode.TheVariants.{Always, Never, Compared, ComparedSigned, Negation, Both, Either}
use Rattle.flow_model.specs.declared.graph.Statement.{Statement}
use Rattle.flow_model.specs.declared.graph.Statement.TheVariants.{Assign, Claim}
use Rattle.flow_model.specs.declared.graph.Jump.{Jump}
use Rattle.flow_model.specs.declared.graph.Jump.TheVariants.{Goto, Branch, Return, Abort}
use Rattle.flow_model.specs.declared.graph.Block.{Block as ABlock}
use Rattle.flow_model.specs.Expressions.{ExprTree, number, variable, plus, minus, times, converted, applied, no_arguments, argument}
use Rattle.flow_model.specs.Conditions.{CondTree, always, never, compared, compared_signed, negation, both, either}
use Rattle.flow_model.specs.Graphs.{StatementTree, assign, claim, JumpTree, goto, branch, return, abort, Block, Graph}

-- the first of some trees, and the others
abbrev pub first_expr : List ExprTree → ExprTree
first_expr [] = no_arguments
first_expr (e ∷ es) = e

abbrev pub other_exprs : List ExprTree → List ExprTree
other_exprs [] = []
other_exprs (e ∷ es) = es

abbrev pub arguments_of : ℕ → List ExprTree → ExprTree
arguments_of zero es = no_arguments
arguments_of (suc n) es = argument (first_expr es) (arguments_of n (other_exprs es))

-- a node over its operands, which are the first of the trees
abbrev pub with_node : ExprNode → List ExprTree → List ExprTree
with_node (node.Number w n) es = number w n ∷ es
with_node (node.Variable k) es = variable k ∷ es
with_node (node.Plus w) es = plus w (first_expr es) (first_expr (other_exprs es)) ∷ other_exprs (other_exprs es)
with_node (node.Minus w) es = minus w (first_expr es) (first_expr (other_exprs es)) ∷ other_exprs (other_exprs es)
with_node (node.Times w) es = times w (first_expr es) (first_expr (other_exprs es)) ∷ other_exprs (other_exprs es)
with_node (node.Converted signed from to) es = converted signed from to (first_expr es) ∷ other_exprs es
with_node (node.Applied f result n) es = applied f result (arguments_of n es) ∷ drop n es

-- the trees of expressions, one after the other
abbrev pub exprs_of : List ExprNode → List ExprTree
exprs_of [] = []
exprs_of (n ∷ ns) = with_node n (exprs_of ns)

abbrev pub expr_of : List ExprNode → ExprTree
expr_of ns = first_expr (exprs_of ns)

abbrev pub first_cond : List CondTree → CondTree
first_cond [] = always
first_cond (b ∷ bs) = b

abbrev pub other_conds : List CondTree → List CondTree
other_conds [] = []
other_conds (b ∷ bs) = bs

-- a node of a condition: a condition by itself, or a connective
pub data CondPart : Type 0 where
  a_condition : (b : CondTree) → CondPart
  a_negation : CondPart
  a_conjunction : CondPart
  a_disjunction : CondPart

-- a node over its operands, which are the first of the trees
abbrev pub with_part : CondPart → List CondTree → List CondTree
with_part (a_condition b) bs = b ∷ bs
with_part a_negation bs = negation (first_cond bs) ∷ other_conds bs
with_part a_conjunction bs = both (first_cond bs) (first_cond (other_conds bs)) ∷ other_conds (other_conds bs)
with_part a_disjunction bs = either (first_cond bs) (first_cond (other_conds bs)) ∷ other_conds (other_conds bs)

-- the trees of conditions, one after the other
abbrev pub conds_of : List CondPart → List CondTree
conds_of [] = []
conds_of (p ∷ ps) = with_part p (conds_of ps)

abbrev pub cond_part : CondNode → CondPart
cond_part Always = a_condition always
cond_part Never = a_condition never
cond_part (Compared rel e f) = a_condition (compared rel (expr_of e.items) (expr_of f.items))
cond_part (ComparedSigned rel w e f) = a_condition (compared_signed rel w (expr_of e.items) (expr_of f.items))
cond_part Negation = a_negation
cond_part Both = a_conjunction
cond_part Either = a_disjunction

abbrev pub cond_of : List CondNode → CondTree
cond_of ns = first_cond (conds_of (map cond_part ns))

abbrev pub values_of : List (Vec ExprNode Global) → List ExprTree
values_of es = map (λ e. expr_of e.items) es

abbrev pub statement_of : Statement → StatementTree
statement_of (Assign targets values) = assign targets.items (values_of values.items)
statement_of (Claim b) = claim (cond_of b.items)

abbrev pub jump_of : Jump → JumpTree
jump_of (Goto k) = goto k
jump_of (Branch b k l) = branch (cond_of b.items) k l
jump_of (Return values) = return (values_of values.items)
jump_of Abort = abort

abbrev pub block_of : ABlock → Block
block_of b = record { is_cut = b.is_cut; statements = map statement_of b.statements.items; jump = jump_of b.jump }

abbrev pub graph_of : List ABlock → Graph
graph_of bs = map block_of bs
