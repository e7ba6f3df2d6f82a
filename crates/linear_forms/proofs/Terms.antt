-- A form consists of its terms and its constant.
use Rattle.std.proofs.Common.{ℕ, ◌≡◌, ◌<◌, List, [], ◌∷◌, length, refl, ap, arith}
use Rattle.linear_forms.specs.Forms.{var, product, TermTree, form_of, terms_of, constant_of}
use Rattle.linear_forms.specs.Arithmetic.{multiple, ordered_product, form_product}

pub terms_of-form_of : (xs : List TermTree) (c : ℕ) → terms_of (form_of xs c) ≡ xs
terms_of-form_of [] c = refl
terms_of-form_of ((var k, t) ∷ xs) c = ap (λ ys. (var k, t) ∷ ys) (terms_of-form_of xs c)
terms_of-form_of ((product f g, t) ∷ xs) c = ap (λ ys. (product f g, t) ∷ ys) (terms_of-form_of xs c)

pub constant_of-form_of : (xs : List TermTree) (c : ℕ) → constant_of (form_of xs c) ≡ c
constant_of-form_of [] c = refl
constant_of-form_of ((var k, t) ∷ xs) c = constant_of-form_of xs c
constant_of-form_of ((product f g, t) ∷ xs) c = constant_of-form_of xs c

-- the product with a form that has no terms, and the product of two forms that have terms
pub product_by_constant : (m : ℕ) (xs : List TermTree) (c : ℕ) (ys : List TermTree) (d : ℕ) → 0 < length xs → length ys ≡ 0 →
    form_product m (form_of xs c) (form_of ys d) ≡ multiple m d (form_of xs c)
product_by_constant m [] c ys d p q = absurd (omega (arith, p))
product_by_constant m (x ∷ xs) c (y ∷ ys) d p q = absurd (omega (arith, q))
product_by_constant m ((var k, t) ∷ xs) c [] d p q = refl
product_by_constant m ((product f g, t) ∷ xs) c [] d p q = refl

pub product_of_both : (m : ℕ) (xs : List TermTree) (c : ℕ) (ys : List TermTree) (d : ℕ) → 0 < length xs → 0 < length ys →
    form_product m (form_of xs c) (form_of ys d) ≡ ordered_product (form_of xs c) (form_of ys d)
product_of_both m [] c ys d p q = absurd (omega (arith, p))
product_of_both m (x ∷ xs) c [] d p q = absurd (omega (arith, q))
product_of_both m ((var k, t) ∷ xs) c ((var j, u) ∷ ys) d p q = refl
product_of_both m ((var k, t) ∷ xs) c ((product f g, u) ∷ ys) d p q = refl
product_of_both m ((product a b, t) ∷ xs) c ((var j, u) ∷ ys) d p q = refl
product_of_both m ((product a b, t) ∷ xs) c ((product f g, u) ∷ ys) d p q = refl
