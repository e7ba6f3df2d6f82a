-- Replacing a variable that does not occur in a form leaves the form unchanged.
use Rattle.std.proofs.Common.{ℕ, ◌≡◌, ◌≢◌, ◌+◌, ◌*◌, ◌%◌, ◌<◌, nat_eq, false, ◌||◌, List, [], ◌∷◌, refl, ◌∙◌, ap, arith, Ordering, Less, Equal, Greater}
use Rattle.std.proofs.lemmas.Bool.{or_parts}
use Rattle.std.proofs.lemmas.Bool.Decides.{nat_tests}
use Rattle.std.proofs.Math.Nat.{mod-eq_of_lt, mul-one, mul-zero, zero-mod, zero-add}
use Rattle.linear_forms.specs.Forms.{FormTree, constant, var_term, product_term, MonoTree, var, product, TermTree, form_of, terms_of, constant_of}
use Rattle.linear_forms.specs.Order.{form_cmp}
use Rattle.linear_forms.specs.Arithmetic.{by_order, put_nonzero, merge, form_sum, multiple, ordered_product, form_product}
use Rattle.linear_forms.specs.NormalForms.{IsVarying, IsForm}
use Rattle.linear_forms.specs.Substitution.{replaced, has_var}
use Rattle.linear_forms.specs.Comparisons.{zero_form, IsAtomic, IsSettled, atomic_has_var, substituted}
use Rattle.linear_forms.specs.declared.comparison.Atomic.{Atomic}
use Rattle.linear_forms.specs.declared.comparison.Atomic.TheVariants.{Zero, Less as Below}
use Rattle.linear_forms.specs.declared.comparison.CondForm.TheVariants.{Pos}
use Rattle.linear_forms.proofs.Ascending.{IsBeforeAll, before_all_terms, constant_of_form}
use Rattle.linear_forms.proofs.CoefficientSums.{form_by_terms}

-- a single term merged with later ones comes first
merge_first : (m : ℕ) (x : TermTree) (ys : List TermTree) → IsBeforeAll x.0 ys → merge m (x ∷ []) ys ≡ x ∷ ys
merge_first m x [] b = refl
merge_first m x (y ∷ ys) b = rw (b.0) refl

-- the sum of a form of one term and a form whose monomials come later
sum_first : (m : ℕ) (p : MonoTree) (t : ℕ) (rest : FormTree) → IsBeforeAll p (terms_of rest) → constant_of rest < m →
    form_of (merge m ((p, t) ∷ []) (terms_of rest)) ((0 + constant_of rest) % m) ≡ form_of ((p, t) ∷ terms_of rest) (constant_of rest)
sum_first m p t rest b l = rw (merge_first m (p, t) (terms_of rest) b, zero-add (constant_of rest), mod-eq_of_lt {n = constant_of rest} {m = m} l) refl

-- a coefficient below m times the form of one monomial
multiple_of_one : (m t : ℕ) (p : MonoTree) → 0 < t → t < m → form_of (put_nonzero p ((t * 1) % m) []) ((t * 0) % m) ≡ form_of ((p, t) ∷ []) 0
multiple_of_one m t p h l =
    let z : nat_eq t 0 ≡ false = grind (arith, nat_tests, h) in
    rw (mul-one t, mod-eq_of_lt {n = t} {m = m} l, z, mul-zero t, zero-mod m) refl

-- two forms in order, neither of them constant, keep their order in their product
product_in_order : (m : ℕ) (f g : FormTree) → IsVarying f → IsVarying g → form_cmp f g ≢ Greater → form_product m f g ≡ product_term f g 1 (constant 0)
product_in_order m f g u v n = both_varying f g u v ∙ by_cases (form_cmp f g) refl
  where
    both_varying : (f g : FormTree) → IsVarying f → IsVarying g → form_product m f g ≡ ordered_product f g
    both_varying (constant c) g u v = absurd u
    both_varying (var_term k t r) (constant d) u v = absurd v
    both_varying (var_term k t r) (var_term l w q) u v = refl
    both_varying (var_term k t r) (product_term a b w q) u v = refl
    both_varying (product_term d e t r) (constant c) u v = absurd v
    both_varying (product_term d e t r) (var_term l w q) u v = refl
    both_varying (product_term d e t r) (product_term a b w q) u v = refl

    by_cases : (o : Ordering) → form_cmp f g ≡ o → by_order o (product_term f g 1 (constant 0)) (product_term f g 1 (constant 0)) (product_term g f 1 (constant 0)) ≡ product_term f g 1 (constant 0)
    by_cases Less e = refl
    by_cases Equal e = refl
    by_cases Greater e = absurd (n e)

pub replaced_untouched : (m j : ℕ) (by f : FormTree) → IsForm m f → has_var j f ≡ false → replaced m j by f ≡ f
replaced_untouched m j by (constant c) i n = ap constant (mod-eq_of_lt i)
replaced_untouched m j by (var_term k t rest) i n =
    let p = or_parts (nat_eq k j) (has_var j rest) n in
    rw (p.0, replaced_untouched m j by rest i.2 p.1)
    (ap (λ f. form_sum m f rest) (multiple_of_one m t (var k) i.0.0 i.0.1)
    ∙ sum_first m (var k) t rest (before_all_terms (var k) rest i.1) (constant_of_form m rest i.2)
    ∙ ap (var_term k t) (form_by_terms rest))
replaced_untouched m j by (product_term f g t rest) i n =
    let p = or_parts (has_var j f || has_var j g) (has_var j rest) n in
    let q = or_parts (has_var j f) (has_var j g) p.0 in
    rw (replaced_untouched m j by f i.3 q.0, replaced_untouched m j by g i.4 q.1, replaced_untouched m j by rest i.2 p.1)
    (ap (λ h. form_sum m (multiple m t h) rest) (product_in_order m f g i.5 i.6 i.7)
    ∙ ap (λ h. form_sum m h rest) (multiple_of_one m t (product f g) i.0.0 i.0.1)
    ∙ sum_first m (product f g) t rest (before_all_terms (product f g) rest i.1) (constant_of_form m rest i.2)
    ∙ ap (product_term f g t) (form_by_terms rest))

pub substituted_untouched : (m j : ℕ) (by : FormTree) (a : Atomic) → IsAtomic m a → IsSettled m a → atomic_has_var j a ≡ false → substituted m j by a ≡ Pos a
substituted_untouched m j by (Zero f) i s n = ap (zero_form m) (replaced_untouched m j by f i n) ∙ s
substituted_untouched m j by (Below f g) i s n =
    let p = or_parts (has_var j f) (has_var j g) n in
    rw (replaced_untouched m j by f i.0 p.0, replaced_untouched m j by g i.1 p.1) s
