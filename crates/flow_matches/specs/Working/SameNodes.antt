-- Whether trees in Polish notation are the same, by their nodes.
use Rattle.std.specs.Prelude.{ℕ, zero, suc, Bool, true, false, ◌&&◌, nat_eq, List, [], ◌∷◌}
use Rattle.kat_model.specs.Problems.{counted}
use Rattle.flow_model.specs.declared.graph.ExprNode.{ExprNode}
use Rattle.flow_model.specs.declared.graph.ExprNode.TheVariants as node
use Rattle.flow_model.specs.declared.graph.CondNode.{CondNode}
use Rattle.flow_model.specs.declared.graph.CondNode.TheVariants.{Always, Never, Compared, ComparedSigned, Negation, Both, Either}
use Rattle.flow_model.specs.Polish.{expr_of}
use Rattle.flow_forms.specs.Conversions.{is_same_width}
use Rattle.flow_places.specs.Reads.{with_operands, with_conditions}
use Rattle.flow_pieces.specs.SameTrees.{is_same_bool, is_same_sort, is_same_rel, is_same_expr}

-- whether two nodes over the same operands are the same expression
abbrev pub is_same_node : ExprNode → ExprNode → Bool
is_same_node (node.Number v m) (node.Number w n) = is_same_width v w && nat_eq m n
is_same_node (node.Variable k) (node.Variable l) = nat_eq k l
is_same_node (node.Plus v) (node.Plus w) = is_same_width v w
is_same_node (node.Minus v) (node.Minus w) = is_same_width v w
is_same_node (node.Times v) (node.Times w) = is_same_width v w
is_same_node (node.Converted b v from) (node.Converted c w to) = is_same_bool b c && is_same_width v w && is_same_width from to
is_same_node (node.Applied f s m) (node.Applied g t n) = nat_eq f g && is_same_sort s t && nat_eq m n
is_same_node _ _ = false

-- the same of the first of some nodes
abbrev pub is_same_at : ExprNode → List ExprNode → Bool
is_same_at m [] = false
is_same_at m (n ∷ ns) = is_same_node m n

-- whether the first k trees of nodes are the same; numbers of trees are at most 2^64 - 1
abbrev pub same_nodes : ℕ → List ExprNode → List ExprNode → Bool
same_nodes zero ms ns = true
same_nodes (suc k) [] [] = true
same_nodes (suc k) [] (n ∷ ns) = false
same_nodes (suc k) (m ∷ ms) [] = false
same_nodes (suc k) (m ∷ ms) (n ∷ ns) = is_same_node m n && same_nodes (counted (with_operands m k)) ms ns

-- whether two nodes over the same operands are the same condition
abbrev pub is_same_cond_node : CondNode → CondNode → Bool
is_same_cond_node Always Always = true
is_same_cond_node Never Never = true
is_same_cond_node (Compared r e f) (Compared s g h) = is_same_rel r s && is_same_expr (expr_of e.items) (expr_of g.items) && is_same_expr (expr_of f.items) (expr_of h.items)
is_same_cond_node (ComparedSigned r v e f) (ComparedSigned s w g h) = is_same_rel r s && is_same_width v w && is_same_expr (expr_of e.items) (expr_of g.items) && is_same_expr (expr_of f.items) (expr_of h.items)
is_same_cond_node Negation Negation = true
is_same_cond_node Both Both = true
is_same_cond_node Either Either = true
is_same_cond_node _ _ = false

-- a condition that has no node is always true
abbrev pub is_always : CondNode → Bool
is_always Always = true
is_always _ = false

abbrev pub are_empty : List CondNode → List CondNode → Bool
are_empty [] [] = true
are_empty _ _ = false

-- whether the first nodes of two lists are the same over the same operands
abbrev pub is_same_cond_at : List CondNode → List CondNode → Bool
is_same_cond_at [] [] = true
is_same_cond_at [] (n ∷ ns) = is_always n
is_same_cond_at (m ∷ ms) [] = is_always m
is_same_cond_at (m ∷ ms) (n ∷ ns) = is_same_cond_node m n

-- the number of conditions that the first nodes of two lists and k conditions after them are made of
abbrev pub with_first_conditions : List CondNode → List CondNode → ℕ → ℕ
with_first_conditions [] ns k = k
with_first_conditions (m ∷ ms) [] k = k
with_first_conditions (m ∷ ms) (n ∷ ns) k = counted (with_conditions m k)

-- whether the first k conditions of nodes are the same
abbrev pub same_cond_nodes : ℕ → List CondNode → List CondNode → Bool
same_cond_nodes zero ms ns = true
same_cond_nodes (suc k) [] [] = true
same_cond_nodes (suc k) [] (n ∷ ns) = is_always n && same_cond_nodes k [] ns
same_cond_nodes (suc k) (m ∷ ms) [] = is_always m && same_cond_nodes k ms []
same_cond_nodes (suc k) (m ∷ ms) (n ∷ ns) = is_same_cond_node m n && same_cond_nodes (counted (with_conditions m k)) ms ns
