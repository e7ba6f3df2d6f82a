-- What the nodes of expressions and conditions in Polish notation read.
use Rattle.std.specs.Prelude.{ℕ, zero, suc, ◌+◌, Bool, false, ◌||◌, nat_eq, List, [], ◌∷◌, Vec}
use Rattle.std.specs.declared.alloc.Global.{Global}
use Rattle.kat_model.specs.Problems.{counted}
use Rattle.flow_model.specs.declared.graph.ExprNode.{ExprNode}
use Rattle.flow_model.specs.declared.graph.ExprNode.TheVariants as node
use Rattle.flow_model.specs.declared.graph.CondNode.{CondNode}
use Rattle.flow_model.specs.declared.graph.CondNode.TheVariants.{Always, Never, Compared, ComparedSigned, Negation, Both, Either}
use Rattle.flow_model.specs.Expressions.{ExprTree}
use Rattle.flow_model.specs.Conditions.{CondTree}
use Rattle.flow_model.specs.Polish.{expr_of}
use Rattle.flow_ways.specs.Liveness.{reads, cond_reads}

-- whether one of the first m trees reads variable x
abbrev pub first_reads : ℕ → ℕ → List ExprTree → Bool
first_reads x zero es = false
first_reads x (suc m) [] = false
first_reads x (suc m) (e ∷ es) = reads x e || first_reads x m es

abbrev pub first_conds_read : ℕ → ℕ → List CondTree → Bool
first_conds_read x zero bs = false
first_conds_read x (suc m) [] = false
first_conds_read x (suc m) (b ∷ bs) = cond_reads x b || first_conds_read x m bs

-- whether a node by itself reads variable x
abbrev pub node_reads : ℕ → ExprNode → Bool
node_reads x (node.Variable k) = nat_eq k x
node_reads x (node.Number w n) = false
node_reads x (node.Plus w) = false
node_reads x (node.Minus w) = false
node_reads x (node.Times w) = false
node_reads x (node.Converted signed from to) = false
node_reads x (node.Applied f result n) = false

-- the number of trees that a node and m trees after it stand for
abbrev pub with_operands : ExprNode → ℕ → ℕ
with_operands (node.Variable k) m = m
with_operands (node.Number w n) m = m
with_operands (node.Plus w) m = m + 2
with_operands (node.Minus w) m = m + 2
with_operands (node.Times w) m = m + 2
with_operands (node.Converted signed from to) m = m + 1
with_operands (node.Applied f result n) m = m + n

-- whether the nodes of the first m trees read variable x; numbers of trees are at most 2^64 - 1
abbrev pub nodes_read : ℕ → ℕ → List ExprNode → Bool
nodes_read x m [] = false
nodes_read x zero (n ∷ ns) = false
nodes_read x (suc m) (n ∷ ns) = node_reads x n || nodes_read x (counted (with_operands n m)) ns

abbrev pub cond_node_reads : ℕ → CondNode → Bool
cond_node_reads x Always = false
cond_node_reads x Never = false
cond_node_reads x (Compared rel e f) = reads x (expr_of e.items) || reads x (expr_of f.items)
cond_node_reads x (ComparedSigned rel w e f) = reads x (expr_of e.items) || reads x (expr_of f.items)
cond_node_reads x Negation = false
cond_node_reads x Both = false
cond_node_reads x Either = false

abbrev pub with_conditions : CondNode → ℕ → ℕ
with_conditions Always m = m
with_conditions Never m = m
with_conditions (Compared rel e f) m = m
with_conditions (ComparedSigned rel w e f) m = m
with_conditions Negation m = m + 1
with_conditions Both m = m + 2
with_conditions Either m = m + 2

abbrev pub cond_nodes_read : ℕ → ℕ → List CondNode → Bool
cond_nodes_read x m [] = false
cond_nodes_read x zero (n ∷ ns) = false
cond_nodes_read x (suc m) (n ∷ ns) = cond_node_reads x n || cond_nodes_read x (counted (with_conditions n m)) ns

-- whether one of the expressions reads variable x
abbrev pub values_read : ℕ → List (Vec ExprNode Global) → Bool
values_read x [] = false
values_read x (e ∷ es) = reads x (expr_of e.items) || values_read x es
