-- What the nodes read is what the first trees read.
use Rattle.std.proofs.Common.{◌≡◌, ◌⊎◌, inl, inr, ⊎_elim, ℕ, zero, suc, ◌+◌, ◌-◌, ◌^◌, ◌≤◌, Bool, true, false, ◌||◌, List, [], ◌∷◌, length, drop, map, refl, sym, ◌∙◌, ap, arith}
use Rattle.std.specs.Prelude.{Vec}
use Rattle.std.specs.declared.alloc.Global.{Global}
use Rattle.std.proofs.lemmas.Bool.{cases_lt}
use Rattle.std.proofs.lemmas.List.{length-drop}
use Rattle.kat_model.specs.Problems.{counted}
use Rattle.flow_model.specs.declared.graph.ExprNode.{ExprNode}
use Rattle.flow_model.specs.declared.graph.ExprNode.TheVariants as node
use Rattle.flow_model.specs.declared.graph.CondNode.{CondNode}
use Rattle.flow_model.specs.declared.graph.CondNode.TheVariants.{Always, Never, Compared, ComparedSigned, Negation, Both, Either}
use Rattle.flow_model.specs.Expressions.{ExprTree}
use Rattle.flow_model.specs.Conditions.{CondTree}
use Rattle.flow_model.specs.Polish.{first_expr, other_exprs, arguments_of, with_node, exprs_of, expr_of, first_cond, other_conds, cond_part, with_part, conds_of, cond_of, values_of}
use Rattle.flow_ways.specs.Liveness.{reads, any_reads, cond_reads}
use Rattle.flow_places.specs.Reads.{first_reads, first_conds_read, node_reads, with_operands, nodes_read, cond_node_reads, with_conditions, cond_nodes_read, values_read}

or_false : (b : Bool) → (b || false) ≡ b
or_false true = refl
or_false false = refl

or_assoc : (a b c : Bool) → ((a || b) || c) ≡ (a || (b || c))
or_assoc true b c = refl
or_assoc false b c = refl

none_first : (x m : ℕ) → first_reads x m [] ≡ false
none_first x zero = refl
none_first x (suc m) = refl

-- another tree
one_first : (x m : ℕ) (es : List ExprTree) → (reads x (first_expr es) || first_reads x m (other_exprs es)) ≡ first_reads x (suc m) es
one_first x m [] = none_first x m
one_first x m (e ∷ es) = refl

two_first : (x m : ℕ) (es : List ExprTree) → ((reads x (first_expr es) || reads x (first_expr (other_exprs es))) || first_reads x m (other_exprs (other_exprs es))) ≡ first_reads x (suc (suc m)) es
two_first x m es =
    or_assoc (reads x (first_expr es)) (reads x (first_expr (other_exprs es))) (first_reads x m (other_exprs (other_exprs es)))
    ∙ ap (λ b. reads x (first_expr es) || b) (one_first x m (other_exprs es))
    ∙ one_first x (suc m) es

some_first : (x n m : ℕ) (es : List ExprTree) → (reads x (arguments_of n es) || first_reads x m (drop n es)) ≡ first_reads x (n + m) es
some_first x zero m es = ap (λ k. first_reads x k es) (omega arith)
some_first x (suc n) m [] =
    ap (λ b. b || first_reads x m []) (none_read n) ∙ none_first x m ∙ sym (none_first x (suc n + m))
  where
    none_read : (n : ℕ) → reads x (arguments_of n []) ≡ false
    none_read zero = refl
    none_read (suc n) = none_read n
some_first x (suc n) m (e ∷ es) =
    let next : suc (n + m) ≡ suc n + m = omega arith in
    or_assoc (reads x e) (reads x (arguments_of n es)) (first_reads x m (drop n es))
    ∙ ap (λ b. reads x e || b) (some_first x n m es)
    ∙ ap (λ k. first_reads x k (e ∷ es)) next

same_count : (x m k : ℕ) (es : List ExprTree) → m ≡ k → first_reads x m es ≡ first_reads x k es
same_count x m k es e = ap (λ n. first_reads x n es) e

-- a node over its operands
node_first : (x m : ℕ) (n : ExprNode) (es : List ExprTree) → first_reads x (suc m) (with_node n es) ≡ (node_reads x n || first_reads x (with_operands n m) es)
node_first x m (node.Number w n) es = refl
node_first x m (node.Variable k) es = refl
node_first x m (node.Plus w) es = two_first x m es ∙ same_count x (suc (suc m)) (m + 2) es (omega arith)
node_first x m (node.Minus w) es = two_first x m es ∙ same_count x (suc (suc m)) (m + 2) es (omega arith)
node_first x m (node.Times w) es = two_first x m es ∙ same_count x (suc (suc m)) (m + 2) es (omega arith)
node_first x m (node.Converted signed from to) es = one_first x m es ∙ same_count x (suc m) (m + 1) es (omega arith)
node_first x m (node.Applied f result n) es = some_first x n m es ∙ same_count x (n + m) (m + n) es (omega arith)

-- more trees than there are read nothing more
enough : (x m k : ℕ) (es : List ExprTree) → length es ≤ m → length es ≤ k → first_reads x m es ≡ first_reads x k es
enough x m k [] p q = none_first x m ∙ sym (none_first x k)
enough x zero k (e ∷ es) p q = absurd (omega (arith, p))
enough x (suc m) zero (e ∷ es) p q = absurd (omega (arith, q))
enough x (suc m) (suc k) (e ∷ es) p q = ap (λ b. reads x e || b) (enough x m k es (omega (arith, p)) (omega (arith, q)))

-- a number is at most 2^64 - 1, or it is counted as that
pub counted_cases : (m : ℕ) → (counted m ≡ m) ⊎ ((counted m ≡ 2 ^ 64 - 1) × (2 ^ 64 - 1 ≤ m))
counted_cases m =
    ⊎_elim (λ l. inl (omega (arith, l))) (λ l. inr (omega (arith, l), omega (arith, l))) (cases_lt m (2 ^ 64 - 1))

counted_first : (x m : ℕ) (es : List ExprTree) → length es ≤ 2 ^ 64 - 1 → first_reads x m es ≡ first_reads x (counted m) es
counted_first x m es h = by_order (counted_cases m)
  where
    by_order : (counted m ≡ m) ⊎ ((counted m ≡ 2 ^ 64 - 1) × (2 ^ 64 - 1 ≤ m)) → first_reads x m es ≡ first_reads x (counted m) es
    by_order (inl e) = ap (λ k. first_reads x k es) (sym e)
    by_order (inr p) = enough x m (counted m) es (omega (arith, h, p.1)) (omega (arith, h, p.0))

others_fewer : (es : List ExprTree) → length (other_exprs es) ≤ length es
others_fewer [] = omega arith
others_fewer (e ∷ es) = omega arith

fewer : (n : ExprNode) (es : List ExprTree) → length (with_node n es) ≤ suc (length es)
fewer (node.Number w n) es = omega arith
fewer (node.Variable k) es = omega arith
fewer (node.Plus w) es = omega (arith, others_fewer (other_exprs es), others_fewer es)
fewer (node.Minus w) es = omega (arith, others_fewer (other_exprs es), others_fewer es)
fewer (node.Times w) es = omega (arith, others_fewer (other_exprs es), others_fewer es)
fewer (node.Converted signed from to) es = omega (arith, others_fewer es)
fewer (node.Applied f result n) es = omega (arith, length-drop n es)

pub trees_within : (ns : List ExprNode) → length (exprs_of ns) ≤ length ns
trees_within [] = omega arith
trees_within (n ∷ ns) = omega (arith, fewer n (exprs_of ns), trees_within ns)

nodes_first : (x m : ℕ) (ns : List ExprNode) → length ns ≤ 2 ^ 64 - 1 → nodes_read x m ns ≡ first_reads x m (exprs_of ns)
nodes_first x m [] h = sym (none_first x m)
nodes_first x zero (n ∷ ns) h = refl
nodes_first x (suc m) (n ∷ ns) h =
    ap (λ b. node_reads x n || b)
    (nodes_first x (counted (with_operands n m)) ns (omega (arith, h))
    ∙ sym (counted_first x (with_operands n m) (exprs_of ns) (omega (arith, h, trees_within ns))))
    ∙ sym (node_first x m n (exprs_of ns))

pub expr_read : (x : ℕ) (ns : List ExprNode) → length ns ≤ 2 ^ 64 - 1 → nodes_read x 1 ns ≡ reads x (expr_of ns)
expr_read x ns h = nodes_first x 1 ns h ∙ sym (one_first x 0 (exprs_of ns)) ∙ or_false (reads x (expr_of ns))

-- conditions

none_cond : (x m : ℕ) → first_conds_read x m [] ≡ false
none_cond x zero = refl
none_cond x (suc m) = refl

one_cond : (x m : ℕ) (bs : List CondTree) → (cond_reads x (first_cond bs) || first_conds_read x m (other_conds bs)) ≡ first_conds_read x (suc m) bs
one_cond x m [] = none_cond x m
one_cond x m (b ∷ bs) = refl

two_conds : (x m : ℕ) (bs : List CondTree) → ((cond_reads x (first_cond bs) || cond_reads x (first_cond (other_conds bs))) || first_conds_read x m (other_conds (other_conds bs))) ≡ first_conds_read x (suc (suc m)) bs
two_conds x m bs =
    or_assoc (cond_reads x (first_cond bs)) (cond_reads x (first_cond (other_conds bs))) (first_conds_read x m (other_conds (other_conds bs)))
    ∙ ap (λ b. cond_reads x (first_cond bs) || b) (one_cond x m (other_conds bs))
    ∙ one_cond x (suc m) bs

same_conds : (x m k : ℕ) (bs : List CondTree) → m ≡ k → first_conds_read x m bs ≡ first_conds_read x k bs
same_conds x m k bs e = ap (λ n. first_conds_read x n bs) e

part_first : (x m : ℕ) (n : CondNode) (bs : List CondTree) → first_conds_read x (suc m) (with_part (cond_part n) bs) ≡ (cond_node_reads x n || first_conds_read x (with_conditions n m) bs)
part_first x m Always bs = refl
part_first x m Never bs = refl
part_first x m (Compared rel e f) bs = refl
part_first x m (ComparedSigned rel w e f) bs = refl
part_first x m Negation bs = one_cond x m bs ∙ same_conds x (suc m) (m + 1) bs (omega arith)
part_first x m Both bs = two_conds x m bs ∙ same_conds x (suc (suc m)) (m + 2) bs (omega arith)
part_first x m Either bs = two_conds x m bs ∙ same_conds x (suc (suc m)) (m + 2) bs (omega arith)

enough_conds : (x m k : ℕ) (bs : List CondTree) → length bs ≤ m → length bs ≤ k → first_conds_read x m bs ≡ first_conds_read x k bs
enough_conds x m k [] p q = none_cond x m ∙ sym (none_cond x k)
enough_conds x zero k (b ∷ bs) p q = absurd (omega (arith, p))
enough_conds x (suc m) zero (b ∷ bs) p q = absurd (omega (arith, q))
enough_conds x (suc m) (suc k) (b ∷ bs) p q = ap (λ a. cond_reads x b || a) (enough_conds x m k bs (omega (arith, p)) (omega (arith, q)))

counted_conds : (x m : ℕ) (bs : List CondTree) → length bs ≤ 2 ^ 64 - 1 → first_conds_read x m bs ≡ first_conds_read x (counted m) bs
counted_conds x m bs h = by_order (counted_cases m)
  where
    by_order : (counted m ≡ m) ⊎ ((counted m ≡ 2 ^ 64 - 1) × (2 ^ 64 - 1 ≤ m)) → first_conds_read x m bs ≡ first_conds_read x (counted m) bs
    by_order (inl e) = ap (λ k. first_conds_read x k bs) (sym e)
    by_order (inr p) = enough_conds x m (counted m) bs (omega (arith, h, p.1)) (omega (arith, h, p.0))

other_conds_fewer : (bs : List CondTree) → length (other_conds bs) ≤ length bs
other_conds_fewer [] = omega arith
other_conds_fewer (b ∷ bs) = omega arith

fewer_conds : (n : CondNode) (bs : List CondTree) → length (with_part (cond_part n) bs) ≤ suc (length bs)
fewer_conds Always bs = omega arith
fewer_conds Never bs = omega arith
fewer_conds (Compared rel e f) bs = omega arith
fewer_conds (ComparedSigned rel w e f) bs = omega arith
fewer_conds Negation bs = omega (arith, other_conds_fewer bs)
fewer_conds Both bs = omega (arith, other_conds_fewer (other_conds bs), other_conds_fewer bs)
fewer_conds Either bs = omega (arith, other_conds_fewer (other_conds bs), other_conds_fewer bs)

pub conds_within : (ns : List CondNode) → length (conds_of (map cond_part ns)) ≤ length ns
conds_within [] = omega arith
conds_within (n ∷ ns) = omega (arith, fewer_conds n (conds_of (map cond_part ns)), conds_within ns)

conds_first : (x m : ℕ) (ns : List CondNode) → length ns ≤ 2 ^ 64 - 1 → cond_nodes_read x m ns ≡ first_conds_read x m (conds_of (map cond_part ns))
conds_first x m [] h = sym (none_cond x m)
conds_first x zero (n ∷ ns) h = refl
conds_first x (suc m) (n ∷ ns) h =
    ap (λ b. cond_node_reads x n || b)
    (conds_first x (counted (with_conditions n m)) ns (omega (arith, h))
    ∙ sym (counted_conds x (with_conditions n m) (conds_of (map cond_part ns)) (omega (arith, h, conds_within ns))))
    ∙ sym (part_first x m n (conds_of (map cond_part ns)))

pub cond_read : (x : ℕ) (ns : List CondNode) → length ns ≤ 2 ^ 64 - 1 → cond_nodes_read x 1 ns ≡ cond_reads x (cond_of ns)
cond_read x ns h =
    conds_first x 1 ns h ∙ sym (one_cond x 0 (conds_of (map cond_part ns))) ∙ or_false (cond_reads x (cond_of ns))

-- the values of an assignment
pub values_any : (x : ℕ) (es : List (Vec ExprNode Global)) → any_reads x (values_of es) ≡ values_read x es
values_any x [] = refl
values_any x (e ∷ es) = ap (λ b. reads x (expr_of e.items) || b) (values_any x es)
