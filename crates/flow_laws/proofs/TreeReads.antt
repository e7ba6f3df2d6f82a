-- What trees read that are made of nodes in Polish notation.
use Rattle.std.proofs.Common.{◌≡◌, ◌≤◌, ℕ, zero, suc, ◌+◌, List, [], ◌∷◌, length, drop, length-drop, Bool, false, ◌||◌, nat_eq, refl, sym, ◌∙◌, ap, arith}
use Rattle.std.proofs.Math.Bool.{or-false, or_assoc}
use Rattle.flow_model.specs.declared.graph.ExprNode.{ExprNode}
use Rattle.flow_model.specs.declared.graph.ExprNode.TheVariants as node
use Rattle.flow_model.specs.Expressions.{ExprTree}
use Rattle.flow_model.specs.Conditions.{CondTree}
use Rattle.flow_model.specs.Polish.{arguments_of, with_node, CondPart, a_condition, a_negation, a_conjunction, a_disjunction, with_part}
use Rattle.flow_ways.specs.Liveness.{reads, any_reads, cond_reads}
use Rattle.flow_text.specs.Trees.{only_expr, only_cond}

-- ---- expressions

-- the number of operands of a node
abbrev pub operands : ExprNode → ℕ
operands (node.Number w n) = 0
operands (node.Variable k) = 0
operands (node.Plus w) = 2
operands (node.Minus w) = 2
operands (node.Times w) = 2
operands (node.Converted signed from to) = 1
operands (node.Applied f result n) = n

-- whether the node is the variable
abbrev pub is_variable : ℕ → ExprNode → Bool
is_variable x (node.Number w n) = false
is_variable x (node.Variable k) = nat_eq k x
is_variable x (node.Plus w) = false
is_variable x (node.Minus w) = false
is_variable x (node.Times w) = false
is_variable x (node.Converted signed from to) = false
is_variable x (node.Applied f result n) = false

arguments_read : (x n : ℕ) (es : List ExprTree) → n ≤ length es → any_reads x es ≡ (reads x (arguments_of n es) || any_reads x (drop n es))
arguments_read x zero es h = refl
arguments_read x (suc n) [] h = absurd (omega (arith, h))
arguments_read x (suc n) (e ∷ es) h = ap (λ b. reads x e || b) (arguments_read x n es (omega (arith, h))) ∙ sym (or_assoc (reads x e) (reads x (arguments_of n es)) (any_reads x (drop n es)))

pub node_reads : (x : ℕ) (n : ExprNode) (es : List ExprTree) → operands n ≤ length es → any_reads x (with_node n es) ≡ (is_variable x n || any_reads x es)
node_reads x (node.Number w k) es h = refl
node_reads x (node.Variable k) es h = refl
node_reads x (node.Plus w) [] h = absurd (omega (arith, h))
node_reads x (node.Plus w) (e ∷ []) h = absurd (omega (arith, h))
node_reads x (node.Plus w) (e ∷ f ∷ es) h = or_assoc (reads x e) (reads x f) (any_reads x es)
node_reads x (node.Minus w) [] h = absurd (omega (arith, h))
node_reads x (node.Minus w) (e ∷ []) h = absurd (omega (arith, h))
node_reads x (node.Minus w) (e ∷ f ∷ es) h = or_assoc (reads x e) (reads x f) (any_reads x es)
node_reads x (node.Times w) [] h = absurd (omega (arith, h))
node_reads x (node.Times w) (e ∷ []) h = absurd (omega (arith, h))
node_reads x (node.Times w) (e ∷ f ∷ es) h = or_assoc (reads x e) (reads x f) (any_reads x es)
node_reads x (node.Converted signed from to) [] h = absurd (omega (arith, h))
node_reads x (node.Converted signed from to) (e ∷ es) h = refl
node_reads x (node.Applied f result n) es h = sym (arguments_read x n es h)

pub node_size : (n : ExprNode) (es : List ExprTree) (m : ℕ) → length es ≡ operands n + m → length (with_node n es) ≡ suc m
node_size (node.Number w k) es m e = omega (arith, e)
node_size (node.Variable k) es m e = omega (arith, e)
node_size (node.Plus w) [] m e = absurd (omega (arith, e))
node_size (node.Plus w) (x ∷ []) m e = absurd (omega (arith, e))
node_size (node.Plus w) (x ∷ y ∷ es) m e = omega (arith, e)
node_size (node.Minus w) [] m e = absurd (omega (arith, e))
node_size (node.Minus w) (x ∷ []) m e = absurd (omega (arith, e))
node_size (node.Minus w) (x ∷ y ∷ es) m e = omega (arith, e)
node_size (node.Times w) [] m e = absurd (omega (arith, e))
node_size (node.Times w) (x ∷ []) m e = absurd (omega (arith, e))
node_size (node.Times w) (x ∷ y ∷ es) m e = omega (arith, e)
node_size (node.Converted signed from to) [] m e = absurd (omega (arith, e))
node_size (node.Converted signed from to) (x ∷ es) m e = omega (arith, e)
node_size (node.Applied f result n) es m e = omega (arith, e, length-drop n es)

pub only_expr_reads : (x : ℕ) (es : List ExprTree) → length es ≡ 1 → any_reads x es ≡ reads x (only_expr es)
only_expr_reads x [] e = absurd (omega (arith, e))
only_expr_reads x (f ∷ []) e = or-false (reads x f)
only_expr_reads x (f ∷ g ∷ es) e = absurd (omega (arith, e))

-- ---- conditions

abbrev pub any_cond_reads : ℕ → List CondTree → Bool
any_cond_reads x [] = false
any_cond_reads x (b ∷ bs) = cond_reads x b || any_cond_reads x bs

-- the number of conditions that a part takes
abbrev pub taken : CondPart → ℕ
taken (a_condition b) = 0
taken a_negation = 1
taken a_conjunction = 2
taken a_disjunction = 2

abbrev pub part_reads : ℕ → CondPart → Bool
part_reads x (a_condition b) = cond_reads x b
part_reads x a_negation = false
part_reads x a_conjunction = false
part_reads x a_disjunction = false

pub parts_read : (x : ℕ) (p : CondPart) (bs : List CondTree) → taken p ≤ length bs → any_cond_reads x (with_part p bs) ≡ (part_reads x p || any_cond_reads x bs)
parts_read x (a_condition b) bs h = refl
parts_read x a_negation [] h = absurd (omega (arith, h))
parts_read x a_negation (b ∷ bs) h = refl
parts_read x a_conjunction [] h = absurd (omega (arith, h))
parts_read x a_conjunction (b ∷ []) h = absurd (omega (arith, h))
parts_read x a_conjunction (b ∷ c ∷ bs) h = or_assoc (cond_reads x b) (cond_reads x c) (any_cond_reads x bs)
parts_read x a_disjunction [] h = absurd (omega (arith, h))
parts_read x a_disjunction (b ∷ []) h = absurd (omega (arith, h))
parts_read x a_disjunction (b ∷ c ∷ bs) h = or_assoc (cond_reads x b) (cond_reads x c) (any_cond_reads x bs)

pub part_size : (p : CondPart) (bs : List CondTree) (m : ℕ) → length bs ≡ taken p + m → length (with_part p bs) ≡ suc m
part_size (a_condition b) bs m e = omega (arith, e)
part_size a_negation [] m e = absurd (omega (arith, e))
part_size a_negation (b ∷ bs) m e = omega (arith, e)
part_size a_conjunction [] m e = absurd (omega (arith, e))
part_size a_conjunction (b ∷ []) m e = absurd (omega (arith, e))
part_size a_conjunction (b ∷ c ∷ bs) m e = omega (arith, e)
part_size a_disjunction [] m e = absurd (omega (arith, e))
part_size a_disjunction (b ∷ []) m e = absurd (omega (arith, e))
part_size a_disjunction (b ∷ c ∷ bs) m e = omega (arith, e)

pub only_cond_reads : (x : ℕ) (bs : List CondTree) → length bs ≡ 1 → any_cond_reads x bs ≡ cond_reads x (only_cond bs)
only_cond_reads x [] e = absurd (omega (arith, e))
only_cond_reads x (b ∷ []) e = or-false (cond_reads x b)
only_cond_reads x (b ∷ c ∷ bs) e = absurd (omega (arith, e))
