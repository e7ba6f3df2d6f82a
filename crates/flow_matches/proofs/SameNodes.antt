-- The trees of nodes are the same exactly if the nodes are the same.
use Rattle.std.proofs.Common.{◌≡◌, ◌⊎◌, inl, inr, ⊎_elim, ℕ, zero, suc, ◌+◌, ◌-◌, ◌^◌, ◌≤◌, Bool, true, false, ◌&&◌, ◌||◌, nat_eq, List, [], ◌∷◌, length, drop, take, refl, sym, ◌∙◌, ap, arith}
use mathlib.Core.Path.{ap₂}
use Rattle.std.proofs.lemmas.List.{nil_from_length, take_all}
use Rattle.std.proofs.lemmas.Bool.{false≢true, eq-eqb, ne_eqb, cases_eq}
use Rattle.kat_model.specs.Problems.{counted}
use Rattle.flow_model.specs.declared.graph.ExprNode.{ExprNode}
use Rattle.flow_model.specs.declared.graph.ExprNode.TheVariants as node
use Rattle.flow_model.specs.Expressions.{ExprTree}
use Rattle.flow_model.specs.Polish.{first_expr, other_exprs, arguments_of, with_node, exprs_of, expr_of}
use Rattle.flow_forms.specs.Conversions.{is_same_width}
use Rattle.flow_places.specs.Reads.{with_operands}
use Rattle.flow_places.proofs.NodeReads.{counted_cases, trees_within}
use Rattle.flow_pieces.specs.SameTrees.{is_same_bool, is_same_sort, is_same_expr}
use Rattle.flow_matches.specs.Working.SameNodes.{is_same_node, is_same_at, same_nodes}

-- whether the first k trees are the same
abbrev first_same : ℕ → List ExprTree → List ExprTree → Bool
first_same zero es fs = true
first_same (suc k) es fs = is_same_expr (first_expr es) (first_expr fs) && first_same k (other_exprs es) (other_exprs fs)

pub and_true : (b : Bool) → (b && true) ≡ b
and_true true = refl
and_true false = refl

pub and_assoc : (a b c : Bool) → ((a && b) && c) ≡ (a && (b && c))
and_assoc true b c = refl
and_assoc false b c = refl

and_swap : (a b c : Bool) → (a && (b && c)) ≡ (b && (a && c))
and_swap true true c = refl
and_swap true false c = refl
and_swap false true c = refl
and_swap false false c = refl

none_same : (k : ℕ) → first_same k [] [] ≡ true
none_same zero = refl
none_same (suc k) = none_same k

suc_same : (m n : ℕ) → nat_eq (suc m) (suc n) ≡ nat_eq m n
suc_same m n =
    ⊎_elim (λ e. eq-eqb (suc m) (suc n) (ap suc e) ∙ sym (eq-eqb m n e)) (λ d. ne_eqb (suc m) (suc n) (λ e. d (omega (arith, e))) ∙ sym (ne_eqb m n d)) (cases_eq m n)

drop_others : (n : ℕ) (es : List ExprTree) → drop (suc n) es ≡ drop n (other_exprs es)
drop_others zero [] = refl
drop_others (suc n) [] = refl
drop_others n (e ∷ es) = refl

same_count : (j k : ℕ) (es fs : List ExprTree) → j ≡ k → first_same j es fs ≡ first_same k es fs
same_count j k es fs e = ap (λ n. first_same n es fs) e

-- arguments, and the trees after them
arguments_same : (m n k : ℕ) (es fs : List ExprTree) → (is_same_expr (arguments_of m es) (arguments_of n fs) && first_same k (drop m es) (drop n fs)) ≡ (nat_eq m n && first_same (m + k) es fs)
arguments_same zero zero k es fs = same_count k (0 + k) es fs (omega arith)
arguments_same zero (suc n) k es fs = sym (ap (λ b. b && first_same (0 + k) es fs) (ne_eqb 0 (suc n) (λ e. omega (arith, e))))
arguments_same (suc m) zero k es fs = sym (ap (λ b. b && first_same (suc m + k) es fs) (ne_eqb (suc m) 0 (λ e. omega (arith, e))))
arguments_same (suc m) (suc n) k es fs =
    let first = is_same_expr (first_expr es) (first_expr fs) in
    let others = is_same_expr (arguments_of m (other_exprs es)) (arguments_of n (other_exprs fs)) in
    let more : suc (m + k) ≡ suc m + k = omega arith in
    and_assoc first others (first_same k (drop (suc m) es) (drop (suc n) fs))
    ∙ ap (λ l. first && (others && first_same k l (drop (suc n) fs))) (drop_others m es)
    ∙ ap (λ l. first && (others && first_same k (drop m (other_exprs es)) l)) (drop_others n fs)
    ∙ ap (λ b. first && b) (arguments_same m n k (other_exprs es) (other_exprs fs))
    ∙ and_swap first (nat_eq m n) (first_same (m + k) (other_exprs es) (other_exprs fs))
    ∙ ap (λ b. b && first_same (suc (m + k)) es fs) (sym (suc_same m n))
    ∙ ap (λ i. nat_eq (suc m) (suc n) && first_same i es fs) more

two_same : (w : Bool) (k : ℕ) (es fs : List ExprTree) →
    (((w && is_same_expr (first_expr es) (first_expr fs)) && is_same_expr (first_expr (other_exprs es)) (first_expr (other_exprs fs))) && first_same k (other_exprs (other_exprs es)) (other_exprs (other_exprs fs))) ≡ (w && first_same (k + 2) es fs)
two_same w k es fs =
    let first = is_same_expr (first_expr es) (first_expr fs) in
    let second = is_same_expr (first_expr (other_exprs es)) (first_expr (other_exprs fs)) in
    let rest = first_same k (other_exprs (other_exprs es)) (other_exprs (other_exprs fs)) in
    and_assoc (w && first) second rest
    ∙ and_assoc w first (second && rest)
    ∙ ap (λ b. w && b) (same_count (suc (suc k)) (k + 2) es fs (omega arith))

-- nodes over their operands, before other trees
node_same : (k : ℕ) (m n : ExprNode) (es fs : List ExprTree) → first_same (suc k) (with_node m es) (with_node n fs) ≡ (is_same_node m n && first_same (with_operands m k) es fs)
node_same k (node.Number v m) (node.Number w n) es fs = refl
node_same k (node.Variable i) (node.Variable j) es fs = refl
node_same k (node.Plus v) (node.Plus w) es fs = two_same (is_same_width v w) k es fs
node_same k (node.Minus v) (node.Minus w) es fs = two_same (is_same_width v w) k es fs
node_same k (node.Times v) (node.Times w) es fs = two_same (is_same_width v w) k es fs
node_same k (node.Converted b v from) (node.Converted c w to) es fs =
    and_assoc (is_same_bool b c && is_same_width v w && is_same_width from to) (is_same_expr (first_expr es) (first_expr fs)) (first_same k (other_exprs es) (other_exprs fs))
    ∙ ap (λ a. (is_same_bool b c && is_same_width v w && is_same_width from to) && a) (same_count (suc k) (k + 1) es fs (omega arith))
node_same k (node.Applied f s m) (node.Applied g t n) es fs =
    let own = nat_eq f g && is_same_sort s t in
    and_assoc own (is_same_expr (arguments_of m es) (arguments_of n fs)) (first_same k (drop m es) (drop n fs))
    ∙ ap (λ b. own && b) (arguments_same m n k es fs)
    ∙ ap (λ i. own && (nat_eq m n && first_same i es fs)) (let e : m + k ≡ k + m = omega arith in e)
    ∙ sym (and_assoc own (nat_eq m n) (first_same (k + m) es fs))
node_same k _ _ es fs = refl

-- more trees than there are are the same
others_within : (es : List ExprTree) (k : ℕ) → length es ≤ suc k → length (other_exprs es) ≤ k
others_within [] k h = omega arith
others_within (e ∷ es) k h = omega (arith, h)

enough_none : (k : ℕ) (es fs : List ExprTree) → length es ≤ 0 → length fs ≤ 0 → first_same k es fs ≡ true
enough_none k [] [] p q = none_same k
enough_none k (e ∷ es) fs p q = absurd (omega (arith, p))
enough_none k [] (f ∷ fs) p q = absurd (omega (arith, q))

enough : (j k : ℕ) (es fs : List ExprTree) → length es ≤ j → length fs ≤ j → length es ≤ k → length fs ≤ k → first_same j es fs ≡ first_same k es fs
enough zero k es fs p q r s = sym (enough_none k es fs p q)
enough (suc j) zero es fs p q r s = enough_none (suc j) es fs r s
enough (suc j) (suc k) es fs p q r s =
    ap (λ b. is_same_expr (first_expr es) (first_expr fs) && b)
    (enough j k (other_exprs es) (other_exprs fs) (others_within es j p) (others_within fs j q) (others_within es k r) (others_within fs k s))

counted_same : (k : ℕ) (es fs : List ExprTree) → length es ≤ 2 ^ 64 - 1 → length fs ≤ 2 ^ 64 - 1 → first_same k es fs ≡ first_same (counted k) es fs
counted_same k es fs p q = by_order (counted_cases k)
  where
    by_order : (counted k ≡ k) ⊎ ((counted k ≡ 2 ^ 64 - 1) × (2 ^ 64 - 1 ≤ k)) → first_same k es fs ≡ first_same (counted k) es fs
    by_order (inl e) = same_count k (counted k) es fs (sym e)
    by_order (inr h) =
        enough k (counted k) es fs (omega (arith, p, h.1)) (omega (arith, q, h.1)) (omega (arith, p, h.0)) (omega (arith, q, h.0))

-- a node gives a tree, which is no list of arguments
pub node_none : (k : ℕ) (n : ExprNode) (es : List ExprTree) → first_same (suc k) (with_node n es) [] ≡ false
node_none k (node.Number w n) es = refl
node_none k (node.Variable i) es = refl
node_none k (node.Plus w) es = refl
node_none k (node.Minus w) es = refl
node_none k (node.Times w) es = refl
node_none k (node.Converted b v w) es = refl
node_none k (node.Applied f s n) es = refl

none_node : (k : ℕ) (n : ExprNode) (es : List ExprTree) → first_same (suc k) [] (with_node n es) ≡ false
none_node k (node.Number w n) es = refl
none_node k (node.Variable i) es = refl
none_node k (node.Plus w) es = refl
none_node k (node.Minus w) es = refl
none_node k (node.Times w) es = refl
none_node k (node.Converted b v w) es = refl
none_node k (node.Applied f s n) es = refl

nodes_same : (k : ℕ) (ms ns : List ExprNode) → length ms ≤ 2 ^ 64 - 1 → length ns ≤ 2 ^ 64 - 1 → same_nodes k ms ns ≡ first_same k (exprs_of ms) (exprs_of ns)
nodes_same zero ms ns p q = refl
nodes_same (suc k) [] [] p q = sym (none_same (suc k))
nodes_same (suc k) [] (n ∷ ns) p q = sym (none_node k n (exprs_of ns))
nodes_same (suc k) (m ∷ ms) [] p q = sym (node_none k m (exprs_of ms))
nodes_same (suc k) (m ∷ ms) (n ∷ ns) p q =
    ap (λ b. is_same_node m n && b)
    (nodes_same (counted (with_operands m k)) ms ns (omega (arith, p)) (omega (arith, q))
    ∙ sym (counted_same (with_operands m k) (exprs_of ms) (exprs_of ns) (omega (arith, p, trees_within ms)) (omega (arith, q, trees_within ns))))
    ∙ sym (node_same k m n (exprs_of ms) (exprs_of ns))

pub exprs_same : (ms ns : List ExprNode) → length ms ≤ 2 ^ 64 - 1 → length ns ≤ 2 ^ 64 - 1 → same_nodes 1 ms ns ≡ is_same_expr (expr_of ms) (expr_of ns)
exprs_same ms ns p q = nodes_same 1 ms ns p q ∙ and_true (is_same_expr (expr_of ms) (expr_of ns))

-- ---- the loop over nodes

without_first : (left ms : List ExprNode) (m : ExprNode) → left ≡ m ∷ ms → take (length left - 1) (drop 1 left) ≡ ms
without_first left ms m is =
    ap (λ ns. take (length ns - 1) (drop 1 ns)) is ∙ take_all (length (m ∷ ms) - 1) ms (omega arith)

pub next_same : (pending : ℕ) (left ms others : List ExprNode) (m : ExprNode) (all : Bool) → left ≡ m ∷ ms → (pending ≡ 0 → ⊥) → is_same_at m others ≡ true →
    same_nodes pending left others ≡ all → same_nodes (counted (with_operands m (pending - 1))) (take (length left - 1) (drop 1 left)) (drop 1 others) ≡ all
next_same zero left ms others m all is some e so_far = absurd (some refl)
next_same (suc k) left ms [] m all is some e so_far = absurd (false≢true e)
next_same (suc k) left ms (n ∷ ns) m all is some e so_far =
    let less : suc k - 1 ≡ k = omega arith in
    ap₂ (λ i l. same_nodes (counted (with_operands m i)) l ns) less (without_first left ms m is)
    ∙ sym (ap (λ b. b && same_nodes (counted (with_operands m k)) ms ns) e)
    ∙ ap (λ l. same_nodes (suc k) l (n ∷ ns)) (sym is)
    ∙ so_far

pub next_differs : (pending : ℕ) (left ms others : List ExprNode) (m : ExprNode) (all : Bool) → left ≡ m ∷ ms → (pending ≡ 0 → ⊥) → is_same_at m others ≡ false → same_nodes pending left others ≡ all → false ≡ all
next_differs zero left ms others m all is some e so_far = absurd (some refl)
next_differs (suc k) left ms [] m all is some e so_far = sym (ap (λ l. same_nodes (suc k) l []) is) ∙ so_far
next_differs (suc k) left ms (n ∷ ns) m all is some e so_far =
    sym (ap (λ l. same_nodes (suc k) l (n ∷ ns)) is ∙ ap (λ b. b && same_nodes (counted (with_operands m k)) ms ns) e) ∙ so_far

pub none_pending : (pending : ℕ) (left others : List ExprNode) (all : Bool) → pending ≡ 0 → same_nodes pending left others ≡ all → true ≡ all
none_pending pending left others all e so_far = sym (ap (λ k. same_nodes k left others) e) ∙ so_far

pub none_left : (pending : ℕ) (left others : List ExprNode) (last all : Bool) → length left ≡ 0 → last ≡ same_nodes pending [] others → same_nodes pending left others ≡ all → last ≡ all
none_left pending left others last all e is so_far =
    is ∙ ap (λ l. same_nodes pending l others) (sym (nil_from_length left e)) ∙ so_far

pub at_end : (pending : ℕ) (others : List ExprNode) → same_nodes pending [] others ≡ (nat_eq pending 0 || nat_eq (length others) 0)
at_end zero others = refl
at_end (suc k) [] = sym (ap (λ b. b || true) (ne_eqb (suc k) 0 (λ e. omega (arith, e))))
at_end (suc k) (n ∷ ns) =
    sym (ap₂ (λ a b. a || b) (ne_eqb (suc k) 0 (λ e. omega (arith, e))) (ne_eqb (length (n ∷ ns)) 0 (λ e. omega (arith, e))))
