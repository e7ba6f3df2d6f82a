-- Ascending lists of terms, as in forms, and their merging.
use Rattle.std.proofs.Common.{ℕ, ◌≡◌, ◌+◌, ◌*◌, ◌%◌, ◌<◌, nat_eq, Bool, true, false, if◌then◌else◌, List, [], ◌∷◌, refl, arith, ◌⊎◌, inl, inr, Ordering, Less, Equal, Greater}
use Rattle.std.proofs.lemmas.Bool.{cases_eq}
use Rattle.std.proofs.lemmas.Bool.Decides.{nat_tests}
use Rattle.std.proofs.lemmas.Nat.{mod_below}
use Rattle.linear_forms.specs.Forms.{FormTree, constant, var_term, product_term, MonoTree, var, product, TermTree, form_of, terms_of, constant_of}
use Rattle.linear_forms.specs.Order.{mono_cmp}
use Rattle.linear_forms.specs.Arithmetic.{by_order, put_nonzero, merge_onto, merge, scale}
use Rattle.linear_forms.specs.NormalForms.{IsBefore, IsCoefficient, IsForm, IsMono}
use Rattle.linear_forms.proofs.SameOrder.{same_mono}
use Rattle.linear_forms.proofs.TotalOrder.{mono_passes, mono_turned}

-- the monomial comes before all monomials of the list
abbrev pub IsBeforeAll : MonoTree → List TermTree → Type 0
IsBeforeAll p [] = Unit {0}
IsBeforeAll p (x ∷ xs) = (mono_cmp p x.0 ≡ Less) × IsBeforeAll p xs

-- the terms of a form: valid coefficients and monomials, strictly ascending
abbrev pub AreTerms : ℕ → List TermTree → Type 0
AreTerms m [] = Unit {0}
AreTerms m (x ∷ xs) = IsCoefficient m x.1 × IsMono m x.0 × IsBeforeAll x.0 xs × AreTerms m xs

-- forms and their lists of terms

before_all_form : (p : MonoTree) (xs : List TermTree) (c : ℕ) → IsBeforeAll p xs → IsBefore p (form_of xs c)
before_all_form p [] c b = tt
before_all_form p ((var k, t) ∷ xs) c b = (b.0, before_all_form p xs c b.1)
before_all_form p ((product f g, t) ∷ xs) c b = (b.0, before_all_form p xs c b.1)

pub before_all_terms : (p : MonoTree) (f : FormTree) → IsBefore p f → IsBeforeAll p (terms_of f)
before_all_terms p (constant c) b = tt
before_all_terms p (var_term k t rest) b = (b.0, before_all_terms p rest b.1)
before_all_terms p (product_term f g t rest) b = (b.0, before_all_terms p rest b.1)

pub form_of_terms : (m : ℕ) (xs : List TermTree) (c : ℕ) → c < m → AreTerms m xs → IsForm m (form_of xs c)
form_of_terms m [] c h a = h
form_of_terms m ((var k, t) ∷ xs) c h a = (a.0, before_all_form (var k) xs c a.2, form_of_terms m xs c h a.3)
form_of_terms m ((product f g, t) ∷ xs) c h a =
    (a.0, before_all_form (product f g) xs c a.2, form_of_terms m xs c h a.3, a.1.0, a.1.1, a.1.2, a.1.3, a.1.4)

pub terms_of_form : (m : ℕ) (f : FormTree) → IsForm m f → AreTerms m (terms_of f)
terms_of_form m (constant c) i = tt
terms_of_form m (var_term k t rest) i = (i.0, tt, before_all_terms (var k) rest i.1, terms_of_form m rest i.2)
terms_of_form m (product_term f g t rest) i =
    (i.0, (i.3, i.4, i.5, i.6, i.7), before_all_terms (product f g) rest i.1, terms_of_form m rest i.2)

pub constant_of_form : (m : ℕ) (f : FormTree) → IsForm m f → constant_of f < m
constant_of_form m (constant c) i = i
constant_of_form m (var_term k t rest) i = constant_of_form m rest i.2
constant_of_form m (product_term f g t rest) i = constant_of_form m rest i.2

-- a monomial before all monomials of two lists is before all monomials of their merging

pub before_all_less : (p q : MonoTree) (xs : List TermTree) → mono_cmp p q ≡ Less → IsBeforeAll q xs → IsBeforeAll p xs
before_all_less p q [] h a = tt
before_all_less p q (x ∷ xs) h a = ((mono_passes p q x.0).0 h a.0, before_all_less p q xs h a.1)

before_all_put_nonzero : (p q : MonoTree) (t : ℕ) (xs : List TermTree) → mono_cmp p q ≡ Less → IsBeforeAll p xs → IsBeforeAll p (put_nonzero q t xs)
before_all_put_nonzero p q t xs h a = by_truth (nat_eq t 0)
  where
    by_truth : (b : Bool) → IsBeforeAll p (if b then xs else (q, t) ∷ xs)
    by_truth true = a
    by_truth false = (h, a)

before_all_merge_onto : (m : ℕ) (p : MonoTree) (x : TermTree) (xs : List TermTree) (merge_rest : List TermTree → List TermTree) →
    ((ys : List TermTree) → IsBeforeAll p ys → IsBeforeAll p (merge_rest ys)) → mono_cmp p x.0 ≡ Less → IsBeforeAll p xs →
    (ys : List TermTree) → IsBeforeAll p ys → IsBeforeAll p (merge_onto m x xs merge_rest ys)
before_all_merge_onto m p x xs merge_rest h l a [] b = (l, a)
before_all_merge_onto m p x xs merge_rest h l a (y ∷ ys) b = by_cases (mono_cmp x.0 y.0) (before_all_merge_onto m p x xs merge_rest h l a ys b.1)
  where
    by_cases : (o : Ordering) → IsBeforeAll p (merge_onto m x xs merge_rest ys) →
        IsBeforeAll p (by_order o (x ∷ merge_rest (y ∷ ys)) (put_nonzero x.0 ((x.1 + y.1) % m) (merge_rest ys)) (y ∷ merge_onto m x xs merge_rest ys))
    by_cases Less later = (l, h (y ∷ ys) b)
    by_cases Equal later = before_all_put_nonzero p x.0 ((x.1 + y.1) % m) (merge_rest ys) l (h ys b.1)
    by_cases Greater later = (b.0, later)

pub before_all_merge : (m : ℕ) (p : MonoTree) (xs ys : List TermTree) → IsBeforeAll p xs → IsBeforeAll p ys → IsBeforeAll p (merge m xs ys)
before_all_merge m p [] ys a b = b
before_all_merge m p (x ∷ xs) ys a b = before_all_merge_onto m p x xs (merge m xs) (λ zs. before_all_merge m p xs zs a.1) a.0 a.1 ys b

pub before_all_scale : (m : ℕ) (a : ℕ) (p : MonoTree) (xs : List TermTree) → IsBeforeAll p xs → IsBeforeAll p (scale m a xs)
before_all_scale m a p [] b = tt
before_all_scale m a p (x ∷ xs) b = before_all_put_nonzero p x.0 ((a * x.1) % m) (scale m a xs) b.0 (before_all_scale m a p xs b.1)

-- merging and scaling give the terms of a form

are_terms_put_nonzero : (m : ℕ) (p : MonoTree) (t : ℕ) (xs : List TermTree) → t < m → IsMono m p → IsBeforeAll p xs → AreTerms m xs → AreTerms m (put_nonzero p t xs)
are_terms_put_nonzero m p t xs h i b a = by_cases (cases_eq t 0)
  where
    by_cases : (t ≡ 0) ⊎ (t ≡ 0 → ⊥) → AreTerms m (put_nonzero p t xs)
    by_cases (inl e) = let z : nat_eq t 0 ≡ true = grind (arith, nat_tests, e) in rw (z) a
    by_cases (inr d) = let z : nat_eq t 0 ≡ false = grind (arith, nat_tests, d) in rw (z) ((omega (arith, d), h), i, b, a)

are_terms_merge_onto : (m : ℕ) (x : TermTree) (xs : List TermTree) → 0 < m → IsCoefficient m x.1 → IsMono m x.0 → IsBeforeAll x.0 xs → AreTerms m xs →
    ((zs : List TermTree) → AreTerms m zs → AreTerms m (merge m xs zs)) →
    (ys : List TermTree) → AreTerms m ys → AreTerms m (merge_onto m x xs (merge m xs) ys)
are_terms_merge_onto m x xs pos n i a r h [] b = (n, i, a, r)
are_terms_merge_onto m x xs pos n i a r h (y ∷ ys) b = by_cases (mono_cmp x.0 y.0) refl (are_terms_merge_onto m x xs pos n i a r h ys b.3)
  where
    by_cases : (o : Ordering) → mono_cmp x.0 y.0 ≡ o → AreTerms m (merge_onto m x xs (merge m xs) ys) →
        AreTerms m (by_order o (x ∷ merge m xs (y ∷ ys)) (put_nonzero x.0 ((x.1 + y.1) % m) (merge m xs ys)) (y ∷ merge_onto m x xs (merge m xs) ys))
    by_cases Less e later = (n, i, before_all_merge m x.0 xs (y ∷ ys) a (e, before_all_less x.0 y.0 ys e b.2), h (y ∷ ys) b)
    by_cases Equal e later =
        are_terms_put_nonzero m x.0 ((x.1 + y.1) % m) (merge m xs ys) (mod_below (x.1 + y.1) m pos) i
        (before_all_merge m x.0 xs ys a (rw (same_mono x.0 y.0 e) b.2)) (h ys b.3)
    by_cases Greater e later =
        let l = mono_turned x.0 y.0 e in
        (b.0, b.1, before_all_merge_onto m y.0 x xs (merge m xs) (λ zs. before_all_merge m y.0 xs zs (before_all_less y.0 x.0 xs l a)) l (before_all_less y.0 x.0 xs l a) ys b.2, later)

pub are_terms_merge : (m : ℕ) (xs ys : List TermTree) → 0 < m → AreTerms m xs → AreTerms m ys → AreTerms m (merge m xs ys)
are_terms_merge m [] ys pos a b = b
are_terms_merge m (x ∷ xs) ys pos a b = are_terms_merge_onto m x xs pos a.0 a.1 a.2 a.3 (λ zs. are_terms_merge m xs zs pos a.3) ys b

pub are_terms_scale : (m a : ℕ) (xs : List TermTree) → 0 < m → AreTerms m xs → AreTerms m (scale m a xs)
are_terms_scale m a [] pos h = tt
are_terms_scale m a (x ∷ xs) pos h =
    are_terms_put_nonzero m x.0 ((a * x.1) % m) (scale m a xs) (mod_below (a * x.1) m pos) h.1 (before_all_scale m a x.0 xs h.2) (are_terms_scale m a xs pos h.3)
