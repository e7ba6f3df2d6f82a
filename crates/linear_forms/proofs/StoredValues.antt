-- The normal form of an expression has the value of the expression. A form with a variable replaced has the value of
-- the form in the store with the variable set.
use Rattle.std.proofs.Common.{ℕ, zero, suc, ◌≡◌, ◌+◌, ◌-◌, ◌*◌, ◌%◌, ◌<◌, nat_eq, true, false, [], ◌∷◌, get_or, set, length, refl, sym, ◌∙◌, ap, ◌⊎◌, inl, inr, arith}
use Rattle.std.proofs.Math.Nat.{mod-eq_of_lt}
use Rattle.std.proofs.lemmas.List.{get_or-set_same, get_or-set_other}
use Rattle.std.proofs.lemmas.Bool.{cases_eq}
use Rattle.std.proofs.lemmas.Bool.Decides.{nat_tests}
use Rattle.std.proofs.lemmas.Nat.{mod_below}
use Rattle.kat_model.specs.Members.{Has}
use Rattle.kat_model.specs.Expressions.{ExprTree, number, variable, plus, minus, times}
use Rattle.kat_model.specs.Stores.{modulus, Store, IsStore, value}
use Rattle.kat_model.specs.declared.expression.Width.{Width}
use Rattle.kat_model.specs.declared.expression.Width.TheVariants.{W8, W16, W32, W64}
use Rattle.linear_forms.specs.Forms.{FormTree, constant, var_term, product_term}
use Rattle.linear_forms.specs.Arithmetic.{multiple, form_product, normal_form}
use Rattle.linear_forms.specs.Values.{polynomial, form_value}
use Rattle.linear_forms.specs.Substitution.{var_replaced, replaced}
use Rattle.linear_forms.proofs.Modulo.{Cong, cong_add, cong_mul, cong_cut, cong_of}
use Rattle.linear_forms.proofs.Polynomials.{polynomial-form_sum, polynomial-multiple, polynomial-form_difference, polynomial-form_product}

pub modulus_above_one : (w : Width) → 1 < modulus w
modulus_above_one W8 = omega arith
modulus_above_one W16 = omega arith
modulus_above_one W32 = omega arith
modulus_above_one W64 = omega arith

-- each variable of a store is below the modulus
below_of_members : (m : ℕ) (s : Store) (k : ℕ) → 0 < m → ((n : ℕ) → Has s n → n < m) → get_or s k 0 < m
below_of_members m [] k h all = h
below_of_members m (x ∷ s) zero h all = all x (inl refl)
below_of_members m (x ∷ s) (suc k) h all = below_of_members m s k h (λ n has. all n (inr has))

pub value_below : (w : Width) (s : Store) (e : ExprTree) → IsStore w s → value w s e < modulus w
value_below w s (number n) i = mod_below n (modulus w) (let p = modulus_above_one w in omega (arith, p))
value_below w s (variable k) i = below_of_members (modulus w) s k (let p = modulus_above_one w in omega (arith, p)) i
value_below w s (plus e f) i = mod_below (value w s e + value w s f) (modulus w) (let p = modulus_above_one w in omega (arith, p))
value_below w s (minus e f) i = mod_below (value w s e + (modulus w - value w s f)) (modulus w) (let p = modulus_above_one w in omega (arith, p))
value_below w s (times e f) i = mod_below (value w s e * value w s f) (modulus w) (let p = modulus_above_one w in omega (arith, p))

-- the normal form of an expression has the value of the expression
pub form_value-normal_form : (w : Width) (s : Store) (e : ExprTree) → IsStore w s → form_value (modulus w) s (normal_form (modulus w) e) ≡ value w s e
form_value-normal_form w s (number n) i = cong_cut (modulus w) n
form_value-normal_form w s (variable k) i =
    ap (λ n. n % modulus w) (omega arith) ∙ mod-eq_of_lt (value_below w s (variable k) i)
form_value-normal_form w s (plus e f) i =
    polynomial-form_sum (modulus w) s (normal_form (modulus w) e) (normal_form (modulus w) f)
    ∙ cong_add (modulus w) _ _ _ _
    (cong_of (modulus w) _ _ (form_value-normal_form w s e i) (value_below w s e i))
    (cong_of (modulus w) _ _ (form_value-normal_form w s f i) (value_below w s f i))
form_value-normal_form w s (minus e f) i =
    polynomial-form_difference (modulus w) s (normal_form (modulus w) e) (normal_form (modulus w) f) (let p = modulus_above_one w in omega (arith, p))
    ∙ cong_add (modulus w) _ _ _ _
    (cong_of (modulus w) _ _ (form_value-normal_form w s e i) (value_below w s e i))
    (ap (λ v. (modulus w - v) % modulus w) (form_value-normal_form w s f i))
form_value-normal_form w s (times e f) i =
    polynomial-form_product (modulus w) s (normal_form (modulus w) e) (normal_form (modulus w) f)
    ∙ cong_mul (modulus w) _ _ _ _
    (cong_of (modulus w) _ _ (form_value-normal_form w s e i) (value_below w s e i))
    (cong_of (modulus w) _ _ (form_value-normal_form w s f i) (value_below w s f i))

-- a replaced variable has the value of the variable in the store in which it is set to the value of the form
polynomial-var_replaced : (m : ℕ) (s : Store) (j : ℕ) (by : FormTree) (k : ℕ) → j < length s → Cong m (polynomial s (var_replaced j by k)) (get_or (set s j (form_value m s by)) k 0)
polynomial-var_replaced m s j by k h = by_cases (cases_eq k j)
  where
    by_cases : (k ≡ j) ⊎ (k ≡ j → ⊥) → Cong m (polynomial s (var_replaced j by k)) (get_or (set s j (form_value m s by)) k 0)
    by_cases (inl e) = let n : nat_eq k j ≡ true = grind (arith, nat_tests, e) in rw (n, e, get_or-set_same s j (form_value m s by) 0 h) (sym (cong_cut m (polynomial s by)))
    by_cases (inr d) = let n : nat_eq k j ≡ false = grind (arith, nat_tests, d) in rw (n, get_or-set_other s j k (form_value m s by) 0 d) (ap (λ n. n % m) (omega arith))

-- a form with a variable replaced has the value of the form in the store in which the variable is set
pub polynomial-replaced : (m : ℕ) (s : Store) (j : ℕ) (by f : FormTree) → j < length s → Cong m (polynomial s (replaced m j by f)) (polynomial (set s j (form_value m s by)) f)
polynomial-replaced m s j by (constant c) h = cong_cut m c
polynomial-replaced m s j by (var_term k t rest) h =
    polynomial-form_sum m s (multiple m t (var_replaced j by k)) (replaced m j by rest)
    ∙ cong_add m _ _ _ _
    (polynomial-multiple m s t (var_replaced j by k)
    ∙ cong_mul m t t _ _ refl (polynomial-var_replaced m s j by k h))
    (polynomial-replaced m s j by rest h)
polynomial-replaced m s j by (product_term f g t rest) h =
    polynomial-form_sum m s (multiple m t (form_product m (replaced m j by f) (replaced m j by g))) (replaced m j by rest)
    ∙ cong_add m _ _ _ _
    (polynomial-multiple m s t (form_product m (replaced m j by f) (replaced m j by g))
    ∙ cong_mul m t t _ _ refl
    (polynomial-form_product m s (replaced m j by f) (replaced m j by g)
    ∙ cong_mul m _ _ _ _ (polynomial-replaced m s j by f h) (polynomial-replaced m s j by g h)))
    (polynomial-replaced m s j by rest h)
