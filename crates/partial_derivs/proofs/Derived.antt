-- Results of calls that derive a term from its parts.
use Rattle.std.proofs.Common.{◌≡◌, ℕ, ◌+◌, ◌*◌, ◌<◌, max, Result, IfOk, sym, ◌∙◌, subst, arith}
use Rattle.std.proofs.lemmas.Result.{IfOk-weaker}
use Rattle.kat_model.specs.Trees.{Term, sum, product, star}
use Rattle.term_nodes.specs.NodeLists.{NodeParts, IsTerm}
use Rattle.term_nodes.specs.NodeTrees.{tree_at}
use Rattle.test_diagrams.specs.Functions.{DiagramsParts}
use Rattle.partial_derivs.specs.declared.moves.Steps.{Steps}
use Rattle.partial_derivs.specs.Moves.{IsDerivativeOf, Keeps}
use Rattle.partial_derivs.proofs.Tables.{IsDerivativeOf-kept}

module _ {E : Type 0} (r : Result Steps E) (s t u v : NodeParts) (b c d g : DiagramsParts) (i j : ℕ) (first second : Steps) (one_kept : Keeps s t b c) (two_kept : Keeps t u c d) (there : IsTerm s j) (is_first : IsDerivativeOf t c (tree_at s i) first) (is_second : IsDerivativeOf u d (tree_at t j) second) where
  first_now : IsDerivativeOf u d (tree_at s i) first
  first_now = IsDerivativeOf-kept t u c d (tree_at s i) first two_kept is_first

  second_now : IsDerivativeOf u d (tree_at s j) second
  second_now = subst (λ e. IsDerivativeOf u d e second) (one_kept.trees.trees j there) is_second

  tail_now : tree_at u j ≡ tree_at s j
  tail_now = two_kept.trees.trees j (one_kept.trees.term_numbers j there) ∙ one_kept.trees.trees j there

  pub sum_derived : IfOk r (λ steps. (store : NodeParts) (e f : Term) → IsDerivativeOf store d e first → IsDerivativeOf store d f second → IsDerivativeOf store g (sum e f) steps) → IfOk r (IsDerivativeOf u g (sum (tree_at s i) (tree_at s j)))
  sum_derived h = IfOk-weaker r _ _ (λ steps k. k u (tree_at s i) (tree_at s j) first_now second_now) h

  pub product_derived : IfOk r (λ steps. (e : Term) → IsDerivativeOf u d e first → IsDerivativeOf u d (tree_at u j) second → IsDerivativeOf v g (product e (tree_at u j)) steps) → IfOk r (IsDerivativeOf v g (product (tree_at s i) (tree_at s j)))
  product_derived h =
      let tail_is : IsDerivativeOf u d (tree_at u j) second = subst (λ e. IsDerivativeOf u d e second) (sym tail_now) second_now in
      IfOk-weaker r _ _ (λ steps k. subst (λ f. IsDerivativeOf v g (product (tree_at s i) f) steps) tail_now (k (tree_at s i) first_now tail_is)) h

pub star_derived : {E : Type 0} (r : Result Steps E) (s t u : NodeParts) (b c d : DiagramsParts) (i own : ℕ) (inner : Steps) → Keeps s t b c → IsTerm s own → tree_at s own ≡ star (tree_at s i) → IsDerivativeOf t c (tree_at s i) inner
    → IfOk r (λ steps. (e : Term) → IsDerivativeOf t c e inner → tree_at t own ≡ star e → IsDerivativeOf u d (star e) steps) → IfOk r (IsDerivativeOf u d (star (tree_at s i)))
star_derived r s t u b c d i own inner kept there tree is h = IfOk-weaker r _ _ (λ steps k. k (tree_at s i) is (kept.trees.trees own there ∙ tree)) h

-- ---- the measures of the calls, where parts have smaller ids

pub earlier : (i n m : ℕ) → i < n → n < m → i < m
earlier i n m low high = omega arith

pub part_pair_falls : (i j n t : ℕ) → 3 * n + 1 ≡ t → i < n → j < n → 3 * max i j + 3 < t
part_pair_falls i j n t is first second = omega arith

pub part_falls : (i n t : ℕ) → 3 * n + 1 ≡ t → i < n → 3 * i + 3 < t
part_falls i n t is part = omega arith

pub first_falls : (i j t : ℕ) → 3 * max i j + 3 ≡ t → 3 * i + 2 < t
first_falls i j t is = omega arith

pub second_falls : (i j t : ℕ) → 3 * max i j + 3 ≡ t → 3 * j + 2 < t
second_falls i j t is = omega arith

pub only_falls : (i t : ℕ) → 3 * i + 3 ≡ t → 3 * i + 2 < t
only_falls i t is = omega arith

pub own_falls : (i t : ℕ) → 3 * i + 2 ≡ t → 3 * i + 1 < t
own_falls i t is = omega arith
