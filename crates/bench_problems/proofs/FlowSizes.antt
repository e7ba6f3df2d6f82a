-- The sizes of the terms of programs, and their tests and actions.
use Rattle.std.proofs.Common.{◌≡◌, ℕ, zero, suc, ◌+◌, ◌/◌, ◌<◌, ◌≤◌, List, [], ◌∷◌, ◌++◌, length, take, drop, refl, sym, ap, ◌∙◌, subst, arith}
use Rattle.std.proofs.lemmas.List.{take-append-drop, length-take, length-drop}
use Rattle.kat_model.specs.Trees.{prim, Term, zero as nothing, one, test, act, product, term_size}
use Rattle.kat_model.specs.Problems.{IsInRange, AreInRange}
use Rattle.kat_model.specs.Balanced.{balanced_within, product_of}
use Rattle.kat_model.proofs.Ranges.{AreInRange-append, IsInRange-product_of}
use Rattle.while_lang.specs.Flows.{FlowTree, empty, skip_then, abort_then, assert_then, act_then, branch_then, loop_then}
use Rattle.while_lang.specs.Encoding.{branch_term, loop_term, stmt_terms, encoded}
use Rattle.bench_problems.specs.Generator.{followed_by}

-- the total number of nodes of the terms, plus one for each term
abbrev weight : List Term → ℕ
weight [] = 0
weight (e ∷ es) = term_size e + weight es + 1

weight-append : (es fs : List Term) → weight (es ++ fs) ≡ weight es + weight fs
weight-append [] fs = omega arith
weight-append (e ∷ es) fs = omega (arith, weight-append es fs)

-- the product of k > 0 terms adds at most k - 1 nodes
nonempty_size : (n : ℕ) (es : List Term) → length es ≤ n → 0 < length es → term_size (balanced_within one product n es) + 1 ≤ weight es
nonempty_size n [] le some = absurd (omega arith)
nonempty_size zero (e ∷ es) le some = absurd (omega arith)
nonempty_size (suc n) (e ∷ []) le some = omega arith
nonempty_size (suc n) (e ∷ f ∷ es) le some =
    let l = e ∷ f ∷ es in
    let i = length (e ∷ f ∷ es) / 2 in
    let a = length-take i l in
    let b = length-drop i l in
    let first = nonempty_size n (take i l) (omega arith) (omega arith) in
    let rest = nonempty_size n (drop i l) (omega arith) (omega arith) in
    let whole : weight (take i l) + weight (drop i l) ≡ weight l = sym (weight-append (take i l) (drop i l)) ∙ ap weight (take-append-drop i l) in
    omega (arith, first, rest, whole)

product_size : (es : List Term) → term_size (product_of es) ≤ weight es + 1
product_size [] = omega arith
product_size (e ∷ es) = omega (arith, nonempty_size (length (e ∷ es)) (e ∷ es) (omega arith) (omega arith))

stmt_terms-followed_by : (f g : FlowTree) → stmt_terms (followed_by f g) ≡ stmt_terms f ++ stmt_terms g
stmt_terms-followed_by empty g = refl
stmt_terms-followed_by (skip_then rest) g = ap (λ (es : List Term). one ∷ es) (stmt_terms-followed_by rest g)
stmt_terms-followed_by (abort_then rest) g = ap (λ (es : List Term). nothing ∷ es) (stmt_terms-followed_by rest g)
stmt_terms-followed_by (assert_then b rest) g = ap (λ (es : List Term). test b ∷ es) (stmt_terms-followed_by rest g)
stmt_terms-followed_by (act_then a rest) g = ap (λ (es : List Term). act a ∷ es) (stmt_terms-followed_by rest g)
stmt_terms-followed_by (branch_then b p q rest) g = ap (λ (es : List Term). branch_term b (encoded p) (encoded q) ∷ es) (stmt_terms-followed_by rest g)
stmt_terms-followed_by (loop_then b p rest) g = ap (λ (es : List Term). loop_term b (encoded p) ∷ es) (stmt_terms-followed_by rest g)

-- a program of four tests and four actions, whose statements have at most `bound` nodes, plus one counted for each
pub record IsFit (bound : ℕ) (f : FlowTree) : Type 0 where
  pub range : AreInRange 4 4 (stmt_terms f)
  pub size : weight (stmt_terms f) ≤ bound

pub encoded_in_range : (bound : ℕ) (f : FlowTree) → IsFit bound f → IsInRange 4 4 (encoded f)
encoded_in_range bound f h = IsInRange-product_of 4 4 (stmt_terms f) h.range

pub encoded_size : (bound : ℕ) (f : FlowTree) → IsFit bound f → term_size (encoded f) ≤ bound + 1
encoded_size bound f h = omega (arith, product_size (stmt_terms f), h.size)

pub fit_more : (m n : ℕ) (f : FlowTree) → m ≤ n → IsFit m f → IsFit n f
fit_more m n f le h = record { range = h.range; size = omega (arith, h.size) }

pub fit_none : IsFit 0 empty
fit_none = record { range = tt; size = omega arith }

pub fit_action : (a : ℕ) → a < 4 → IsFit 2 (act_then a empty)
fit_action a h = record { range = (h, tt); size = omega arith }

module _ (m n : ℕ) (f g : FlowTree) (p : IsFit m f) (q : IsFit n g) where
  pub fit_both : IsFit (m + n) (followed_by f g)
  fit_both =
      let e = stmt_terms-followed_by f g in record {
        range = subst (AreInRange 4 4) (sym e) (AreInRange-append 4 4 (stmt_terms f) (stmt_terms g) p.range q.range);
        size = let w : weight (stmt_terms (followed_by f g)) ≡ weight (stmt_terms f) + weight (stmt_terms g) = ap weight e ∙ weight-append (stmt_terms f) (stmt_terms g) in omega (arith, w, p.size, q.size);
      }

  pub fit_branch : (k : ℕ) → k < 4 → IsFit (m + n + 11) (branch_then (prim k) f g empty)
  fit_branch k h = record {
    range = (((h, encoded_in_range m f p), (h, encoded_in_range n g q)), tt);
    size = omega (arith, encoded_size m f p, encoded_size n g q);
  }

pub fit_loop : (m : ℕ) (f : FlowTree) → IsFit m f → (k : ℕ) → k < 4 → IsFit (m + 10) (loop_then (prim k) f empty)
fit_loop m f p k h = record {
  range = (((h, encoded_in_range m f p), h), tt);
  size = omega (arith, encoded_size m f p);
}
