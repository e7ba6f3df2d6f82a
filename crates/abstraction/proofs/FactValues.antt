-- The facts of arithmetic, as statements about the values of forms in a store.
use Rattle.std.proofs.Common.{◌≡◌, ◌≢◌, refl, ℕ, ◌%◌, ◌<◌, true, false, ◌||◌, nat_eq, nat_lt, sym, ◌∙◌, ap, ⊎_elim, subst, mod-eq_of_lt, arith}
use Rattle.std.proofs.lemmas.Bool.{eqb-true, eq-eqb, ltb-true, ltb-false, or_cases, both_ways}
use Rattle.std.proofs.lemmas.Bool.Decides.{nat_tests}
use Rattle.kat_model.specs.Stores.{Store}
use Rattle.linear_forms.specs.Forms.{FormTree, constant, var_term, product_term, constant_of}
use Rattle.linear_forms.specs.Arithmetic.{negative, form_sum, form_difference}
use Rattle.linear_forms.specs.NormalForms.{IsForm}
use Rattle.linear_forms.specs.Values.{form_value}
use Rattle.linear_forms.specs.Comparisons.{canonical}
use Rattle.linear_forms.proofs.Polynomials.{form_value-form_sum}
use Rattle.linear_forms.proofs.Truths.{form_value_below, zero-canonical, zero-form_difference, constant_below_sum, apart-form_difference}
use Rattle.abstraction.specs.Facts.{is_nonzero, are_less}

-- a constant other than 0
nonzero_constant : (f : FormTree) → is_nonzero f ≡ true → (c : ℕ) × (f ≡ constant c) × (c ≢ 0)
nonzero_constant (constant c) e = (c, refl, λ z. grind (arith, nat_tests, e, z))
nonzero_constant (var_term k t rest) e = absurd cc
nonzero_constant (product_term f g t rest) e = absurd cc

module _ (m : ℕ) (s : Store) (h : 1 < m) where
  below_modulus : (f : FormTree) → form_value m s f < m
  below_modulus f = form_value_below m s f (omega (arith, h))

  -- if g is 0 and the difference of f and g is a constant, f is that constant
  pub value_by_difference : (f g : FormTree) (c : ℕ) → form_difference m f g ≡ constant c → nat_eq (form_value m s g) 0 ≡ true → form_value m s f ≡ c
  value_by_difference f g c e z =
      let zero : form_value m s g ≡ 0 = eqb-true (form_value m s g) 0 z in
      let less : c < m = subst (λ x. constant_of x < m) e (constant_below_sum m f (negative m g) (omega (arith, h))) in
      apart-form_difference m s f g c h e ∙ ap (λ n. n % m) (omega (arith, zero)) ∙ mod-eq_of_lt less

  pub value_by_sum : (f g : FormTree) (c : ℕ) → form_sum m f g ≡ constant c → nat_eq (form_value m s g) 0 ≡ true → form_value m s f ≡ c
  value_by_sum f g c e z =
      let zero : form_value m s g ≡ 0 = eqb-true (form_value m s g) 0 z in
      let less : c < m = subst (λ x. constant_of x < m) e (constant_below_sum m f g (omega (arith, h))) in
      let sum : form_value m s (form_sum m f g) ≡ form_value m s f =
      form_value-form_sum m s f g ∙ ap (λ n. n % m) (omega (arith, zero)) ∙ mod-eq_of_lt (below_modulus f) in
      sym sum ∙ ap (form_value m s) e ∙ mod-eq_of_lt less

  -- two forms whose difference or sum is a constant other than 0 are not both 0
  pub not_both_zero : (f g : FormTree) → nat_eq (form_value m s f) 0 ≡ true → nat_eq (form_value m s g) 0 ≡ true
      → (is_nonzero (form_difference m f g) || is_nonzero (form_sum m f g)) ≡ true → ⊥
  not_both_zero f g p q e =
      ⊎_elim
      (λ d. let c = nonzero_constant (form_difference m f g) d in c.2 (sym (value_by_difference f g c.0 c.1 q) ∙ eqb-true _ _ p))
      (λ d. let c = nonzero_constant (form_sum m f g) d in c.2 (sym (value_by_sum f g c.0 c.1 q) ∙ eqb-true _ _ p))
      (or_cases (is_nonzero (form_difference m f g)) (is_nonzero (form_sum m f g)) e)

  pub not_both_less : (f g : FormTree) → nat_lt (form_value m s f) (form_value m s g) ≡ true → nat_lt (form_value m s g) (form_value m s f) ≡ true → ⊥
  not_both_less f g p q = let a = ltb-true _ _ p in let b = ltb-true _ _ q in omega arith

  -- the canonical difference is 0 exactly when both forms are equal
  canonical_difference : (f g : FormTree) → nat_eq (form_value m s (canonical m (form_difference m f g))) 0 ≡ nat_eq (form_value m s f) (form_value m s g)
  canonical_difference f g = zero-canonical m s (form_difference m f g) h ∙ zero-form_difference m s f g h

  pub not_less_and_equal : (f g : FormTree) → nat_lt (form_value m s f) (form_value m s g) ≡ true → nat_eq (form_value m s (canonical m (form_difference m f g))) 0 ≡ true → ⊥
  not_less_and_equal f g p q = let a = ltb-true _ _ p in let b = eqb-true _ _ (sym (canonical_difference f g) ∙ q) in omega arith

  pub one_of_three : (f g : FormTree) → nat_lt (form_value m s f) (form_value m s g) ≡ false → nat_lt (form_value m s g) (form_value m s f) ≡ false
      → nat_eq (form_value m s (canonical m (form_difference m f g))) 0 ≡ false → ⊥
  one_of_three f g p q r =
      let a = ltb-false _ _ p in
      let b = ltb-false _ _ q in
      both_ways _ (sym (canonical_difference f g) ∙ r) (eq-eqb (form_value m s f) (form_value m s g) (omega arith))

  -- the value of a constant is the constant
  less_constants : (f g : FormTree) → IsForm m f → IsForm m g → are_less f g ≡ true → form_value m s f < form_value m s g
  less_constants (constant c) (constant d) p q e = rw (mod-eq_of_lt {n = c} {m = m} p, mod-eq_of_lt {n = d} {m = m} q) (ltb-true c d e)
  less_constants (constant c) (var_term k t rest) p q e = absurd cc
  less_constants (constant c) (product_term f g t rest) p q e = absurd cc
  less_constants (var_term k t rest) g p q e = absurd cc
  less_constants (product_term f g' t rest) g p q e = absurd cc

  pub less_than_greater : (f c d : FormTree) → IsForm m c → IsForm m d → are_less c d ≡ true
      → nat_lt (form_value m s f) (form_value m s c) ≡ true → nat_lt (form_value m s f) (form_value m s d) ≡ false → ⊥
  less_than_greater f c d p q e a b =
      let l = less_constants c d p q e in
      let i = ltb-true _ _ a in
      let j = ltb-false _ _ b in
      omega arith

  -- a form with a known value, compared with a constant
  pub less_than_constant : (f : FormTree) (c d : ℕ) → form_value m s f ≡ c → d < m → nat_lt (form_value m s f) (form_value m s (constant d)) ≡ nat_lt c d
  less_than_constant f c d e l = rw (e, mod-eq_of_lt {n = d} {m = m} l) refl
