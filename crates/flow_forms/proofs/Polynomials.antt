-- Sums, multiples and products of forms have the sums, multiples and products of their values.
use Rattle.std.proofs.Common.{◌≡◌, ℕ, ◌+◌, ◌-◌, ◌*◌, ◌%◌, ◌<◌, nat_eq, false, refl, sym, ◌∙◌, ap, ◌⊎◌, inl, inr, arith, Ordering, Less, Equal, Greater}
use Rattle.std.proofs.Math.Nat.{mul_assoc, mul_comm, mul-add, add-mul}
use Rattle.std.proofs.lemmas.Bool.{cases_eq}
use Rattle.std.proofs.lemmas.Bool.Decides.{nat_tests}
use Rattle.std.proofs.lemmas.Nat.{mod_below, mul-mod}
use Rattle.linear_forms.specs.Arithmetic.{by_order}
use Rattle.linear_forms.proofs.Modulo.{Cong, cong_add, cong_mul, cong_cut, add-mod, negated}
use Rattle.flow_model.specs.Sorts.{State}
use Rattle.flow_model.specs.Interpretations.{Interpretation}
use Rattle.flow_forms.specs.Forms.{FlowFormTree, constant, term, one, factor, cell_form}
use Rattle.flow_forms.specs.Values.{polynomial}
use Rattle.flow_forms.specs.Order.{form_cmp}
use Rattle.flow_forms.specs.Arithmetic.{nonzero_term, plus_constant, term_onto, form_sum, multiple, negative, form_difference, cell_onto, joined, term_times, form_product}
use Rattle.flow_forms.proofs.SameForms.{same_form}

-- numbers

regrouped : (x a y : ℕ) → x + (a + y) ≡ (x + a) + y
regrouped x a y = omega arith

alone : (x : ℕ) → 1 * (x * 1) + 0 ≡ x
alone x = omega arith

alone_and : (m x c : ℕ) → Cong m (1 * (x * 1) + c % m) (c + x)
alone_and m x c =
    cong_add m (1 * (x * 1)) x (c % m) c (ap (λ n. n % m) (omega arith)) (cong_cut m c) ∙ ap (λ n. n % m) (omega arith)

alone_times : (m a x : ℕ) → Cong m ((a % m) * (x * 1) + 0) (a * x)
alone_times m a x =
    ap (λ n. n % m) (omega arith) ∙ cong_mul m (a % m) a x x (cong_cut m a) refl

cut_times : (m a x : ℕ) → Cong m ((a % m) * x) (a * x)
cut_times m a x = cong_mul m (a % m) a x x (cong_cut m a) refl

times_swapped : (a b c : ℕ) → a * (b * c) ≡ b * (a * c)
times_swapped a b c = sym (mul_assoc a b c) ∙ ap (λ n. n * c) (mul_comm a b) ∙ mul_assoc b a c

-- (t u) (v w) is (t v) (u w)
pairs_swapped : (t u v w : ℕ) → (t * u) * (v * w) ≡ (t * v) * (u * w)
pairs_swapped t u v w = mul_assoc t u (v * w) ∙ ap (λ n. t * n) (times_swapped u v w) ∙ sym (mul_assoc t v (u * w))

-- (t d) v is (t v) d
last_swapped : (t d v : ℕ) → (t * d) * v ≡ (t * v) * d
last_swapped t d v = mul_assoc t d v ∙ ap (λ n. t * n) (mul_comm d v) ∙ sym (mul_assoc t v d)

-- forms

pub polynomial-cell_form : (I : Interpretation) (s : State) (c : FlowFormTree) → polynomial I s (cell_form c) ≡ polynomial I s c
polynomial-cell_form I s c = alone (polynomial I s c)

pub polynomial-nonzero_term : (I : Interpretation) (s : State) (t : ℕ) (p rest : FlowFormTree) → polynomial I s (nonzero_term t p rest) ≡ t * polynomial I s p + polynomial I s rest
polynomial-nonzero_term I s t p rest = by_cases (cases_eq t 0)
  where
    by_cases : (t ≡ 0) ⊎ (t ≡ 0 → ⊥) → polynomial I s (nonzero_term t p rest) ≡ t * polynomial I s p + polynomial I s rest
    by_cases (inl e) = rw (e) (omega arith)
    by_cases (inr d) = let n : nat_eq t 0 ≡ false = grind (arith, nat_tests, d) in rw (n) refl

pub polynomial-plus_constant : (I : Interpretation) (s : State) (m c : ℕ) (g : FlowFormTree) → Cong m (polynomial I s (plus_constant m c g)) (c + polynomial I s g)
polynomial-plus_constant I s m c (constant d) = cong_cut m (c + d)
polynomial-plus_constant I s m c (term t p rest) =
    cong_add m (t * polynomial I s p) (t * polynomial I s p) _ _ refl (polynomial-plus_constant I s m c rest)
    ∙ ap (λ n. n % m) (omega arith)
polynomial-plus_constant I s m c g = alone_and m (polynomial I s g) c

polynomial-term_onto : (I : Interpretation) (s : State) (m t : ℕ) (p : FlowFormTree) (a : ℕ) (add_rest : FlowFormTree → FlowFormTree) →
    ((g : FlowFormTree) → Cong m (polynomial I s (add_rest g)) (a + polynomial I s g)) →
    (g : FlowFormTree) → Cong m (polynomial I s (term_onto m t p add_rest g)) ((t * polynomial I s p + a) + polynomial I s g)
polynomial-term_onto I s m t p a add_rest h (term u q other) =
    by_cases (form_cmp p q) (same_form p q) (polynomial-term_onto I s m t p a add_rest h other)
  where
    by_cases : (o : Ordering) → (o ≡ Equal → p ≡ q) → Cong m (polynomial I s (term_onto m t p add_rest other)) ((t * polynomial I s p + a) + polynomial I s other) →
        Cong m (polynomial I s (by_order o (term t p (add_rest (term u q other))) (nonzero_term ((t + u) % m) p (add_rest other)) (term u q (term_onto m t p add_rest other))))
        ((t * polynomial I s p + a) + (u * polynomial I s q + polynomial I s other))
    by_cases Less e later =
        cong_add m (t * polynomial I s p) (t * polynomial I s p) _ _ refl (h (term u q other)) ∙ ap (λ n. n % m) (omega arith)
    by_cases Equal e later =
        ap (λ n. n % m) (polynomial-nonzero_term I s ((t + u) % m) p (add_rest other))
        ∙ cong_add m _ _ _ _ (cut_times m (t + u) (polynomial I s p)) (h other)
        ∙ ap (λ n. n % m) (rw (add-mul t u (polynomial I s p)) (rw (e refl) (omega arith)))
    by_cases Greater e later =
        cong_add m (u * polynomial I s q) (u * polynomial I s q) _ _ refl later ∙ ap (λ n. n % m) (omega arith)
polynomial-term_onto I s m t p a add_rest h g =
    cong_add m (t * polynomial I s p) (t * polynomial I s p) _ _ refl (h g)
    ∙ ap (λ n. n % m) (regrouped (t * polynomial I s p) a (polynomial I s g))

pub polynomial-form_sum : (I : Interpretation) (s : State) (m : ℕ) (f g : FlowFormTree) → Cong m (polynomial I s (form_sum m f g)) (polynomial I s f + polynomial I s g)
polynomial-form_sum I s m (constant c) g = polynomial-plus_constant I s m c g
polynomial-form_sum I s m (term t p rest) g =
    polynomial-term_onto I s m t p (polynomial I s rest) (form_sum m rest) (polynomial-form_sum I s m rest) g
polynomial-form_sum I s m f g =
    polynomial-term_onto I s m 1 (factor f one) 0 (plus_constant m 0) (polynomial-plus_constant I s m 0) g
    ∙ ap (λ n. (n + polynomial I s g) % m) (alone (polynomial I s f))

pub polynomial-multiple : (I : Interpretation) (s : State) (m a : ℕ) (f : FlowFormTree) → Cong m (polynomial I s (multiple m a f)) (a * polynomial I s f)
polynomial-multiple I s m a (constant c) = cong_cut m (a * c)
polynomial-multiple I s m a (term t p rest) =
    ap (λ n. n % m) (polynomial-nonzero_term I s ((a * t) % m) p (multiple m a rest))
    ∙ cong_add m _ _ _ _ (cut_times m (a * t) (polynomial I s p)) (polynomial-multiple I s m a rest)
    ∙ ap (λ n. n % m) (rw (mul_assoc a t (polynomial I s p)) (sym (mul-add a (t * polynomial I s p) (polynomial I s rest))))
polynomial-multiple I s m a f =
    ap (λ n. n % m) (polynomial-nonzero_term I s (a % m) (factor f one) (constant 0)) ∙ alone_times m a (polynomial I s f)

pub polynomial-negative : (I : Interpretation) (s : State) (m : ℕ) (f : FlowFormTree) → 0 < m → Cong m (polynomial I s (negative m f)) (m - polynomial I s f % m)
polynomial-negative I s m f h =
    polynomial-multiple I s m (m - 1) f
    ∙ cong_mul m (m - 1) (m - 1) (polynomial I s f) (polynomial I s f % m) refl (sym (cong_cut m (polynomial I s f)))
    ∙ negated m (polynomial I s f % m) (mod_below (polynomial I s f) m h)

pub polynomial-form_difference : (I : Interpretation) (s : State) (m : ℕ) (f g : FlowFormTree) → 0 < m → Cong m (polynomial I s (form_difference m f g)) (polynomial I s f + (m - polynomial I s g % m))
polynomial-form_difference I s m f g h =
    polynomial-form_sum I s m f (negative m g)
    ∙ cong_add m (polynomial I s f) (polynomial I s f) _ _ refl (polynomial-negative I s m g h)

polynomial-cell_onto : (I : Interpretation) (s : State) (c : FlowFormTree) (a : ℕ) (join_rest : FlowFormTree → FlowFormTree) →
    ((q : FlowFormTree) → polynomial I s (join_rest q) ≡ a * polynomial I s q) →
    (q : FlowFormTree) → polynomial I s (cell_onto c join_rest q) ≡ (polynomial I s c * a) * polynomial I s q
polynomial-cell_onto I s c a join_rest h (factor d ds) = by_cases (form_cmp c d) (polynomial-cell_onto I s c a join_rest h ds)
  where
    first_is : polynomial I s c * polynomial I s (join_rest (factor d ds)) ≡ (polynomial I s c * a) * (polynomial I s d * polynomial I s ds)
    first_is = ap (λ n. polynomial I s c * n) (h (factor d ds)) ∙ sym (mul_assoc (polynomial I s c) a (polynomial I s d * polynomial I s ds))

    by_cases : (o : Ordering) → polynomial I s (cell_onto c join_rest ds) ≡ (polynomial I s c * a) * polynomial I s ds →
        polynomial I s (by_order o (factor c (join_rest (factor d ds))) (factor c (join_rest (factor d ds))) (factor d (cell_onto c join_rest ds)))
        ≡ (polynomial I s c * a) * (polynomial I s d * polynomial I s ds)
    by_cases Less later = first_is
    by_cases Equal later = first_is
    by_cases Greater later =
        ap (λ n. polynomial I s d * n) later ∙ times_swapped (polynomial I s d) (polynomial I s c * a) (polynomial I s ds)
polynomial-cell_onto I s c a join_rest h q =
    ap (λ n. polynomial I s c * n) (h q) ∙ sym (mul_assoc (polynomial I s c) a (polynomial I s q))

one_times : (x : ℕ) → x ≡ 1 * x
one_times x = omega arith

times_one : (x y : ℕ) → (x * 1) * y ≡ x * y
times_one x y = ap (λ n. n * y) (omega arith)

pub polynomial-joined : (I : Interpretation) (s : State) (p q : FlowFormTree) → polynomial I s (joined p q) ≡ polynomial I s p * polynomial I s q
polynomial-joined I s one q = one_times (polynomial I s q)
polynomial-joined I s (factor c cs) q = polynomial-cell_onto I s c (polynomial I s cs) (joined cs) (polynomial-joined I s cs) q
polynomial-joined I s p q =
    polynomial-cell_onto I s p 1 (λ r. r) (λ r. one_times (polynomial I s r)) q ∙ times_one (polynomial I s p) (polynomial I s q)

constant_times : (m t d v : ℕ) → Cong m (((t * d) % m) * v + 0) ((t * v) * d)
constant_times m t d v =
    ap (λ n. n % m) (omega arith) ∙ cut_times m (t * d) v ∙ ap (λ n. n % m) (last_swapped t d v)

alone_joined : (m t v x : ℕ) → Cong m ((t % m) * (v * (x * 1)) + 0) ((t * v) * x)
alone_joined m t v x =
    ap (λ n. n % m) (omega arith) ∙ cut_times m t (v * x) ∙ ap (λ n. n % m) (sym (mul_assoc t v x))

terms_times : (m t u v w : ℕ) → Cong m (((t * u) % m) * (v * w) + 0) ((t * v) * (u * w))
terms_times m t u v w =
    ap (λ n. n % m) (omega arith) ∙ cut_times m (t * u) (v * w) ∙ ap (λ n. n % m) (pairs_swapped t u v w)

polynomial-term_times : (I : Interpretation) (s : State) (m t : ℕ) (p g : FlowFormTree) → Cong m (polynomial I s (term_times m t p g)) ((t * polynomial I s p) * polynomial I s g)
polynomial-term_times I s m t p (constant d) =
    ap (λ n. n % m) (polynomial-nonzero_term I s ((t * d) % m) p (constant 0)) ∙ constant_times m t d (polynomial I s p)
polynomial-term_times I s m t p (term u q rest) =
    polynomial-form_sum I s m (nonzero_term ((t * u) % m) (joined p q) (constant 0)) (term_times m t p rest)
    ∙ cong_add m _ _ _ _ first_is (polynomial-term_times I s m t p rest)
    ∙ ap (λ n. n % m) (sym (mul-add (t * polynomial I s p) (u * polynomial I s q) (polynomial I s rest)))
  where
    first_is : Cong m (polynomial I s (nonzero_term ((t * u) % m) (joined p q) (constant 0))) ((t * polynomial I s p) * (u * polynomial I s q))
    first_is =
        ap (λ n. n % m) (polynomial-nonzero_term I s ((t * u) % m) (joined p q) (constant 0))
        ∙ ap (λ n. (((t * u) % m) * n + 0) % m) (polynomial-joined I s p q)
        ∙ terms_times m t u (polynomial I s p) (polynomial I s q)
polynomial-term_times I s m t p f =
    ap (λ n. n % m) (polynomial-nonzero_term I s (t % m) (joined p (factor f one)) (constant 0))
    ∙ ap (λ n. ((t % m) * n + 0) % m) (polynomial-joined I s p (factor f one))
    ∙ alone_joined m t (polynomial I s p) (polynomial I s f)

sum_times : (x y z : ℕ) → x * z + y * z ≡ (x + y) * z
sum_times x y z = sym (add-mul x y z)

pub polynomial-form_product : (I : Interpretation) (s : State) (m : ℕ) (f g : FlowFormTree) → Cong m (polynomial I s (form_product m f g)) (polynomial I s f * polynomial I s g)
polynomial-form_product I s m (constant c) g = polynomial-multiple I s m c g
polynomial-form_product I s m (term t p rest) g =
    polynomial-form_sum I s m (term_times m t p g) (form_product m rest g)
    ∙ cong_add m _ _ _ _ (polynomial-term_times I s m t p g) (polynomial-form_product I s m rest g)
    ∙ ap (λ n. n % m) (sum_times (t * polynomial I s p) (polynomial I s rest) (polynomial I s g))
polynomial-form_product I s m f g =
    polynomial-term_times I s m 1 (factor f one) g
    ∙ ap (λ n. (n * polynomial I s g) % m) (omega arith)

-- the values themselves

pub value-form_sum : (I : Interpretation) (s : State) (m : ℕ) (f g : FlowFormTree) → polynomial I s (form_sum m f g) % m ≡ (polynomial I s f % m + polynomial I s g % m) % m
value-form_sum I s m f g = polynomial-form_sum I s m f g ∙ sym (add-mod (polynomial I s f) (polynomial I s g) m)

pub value-form_difference : (I : Interpretation) (s : State) (m : ℕ) (f g : FlowFormTree) → 0 < m → polynomial I s (form_difference m f g) % m ≡ (polynomial I s f % m + (m - polynomial I s g % m)) % m
value-form_difference I s m f g h =
    polynomial-form_difference I s m f g h ∙ cong_add m _ _ _ _ (sym (cong_cut m (polynomial I s f))) refl

pub value-multiple : (I : Interpretation) (s : State) (m a : ℕ) (f : FlowFormTree) → polynomial I s (multiple m a f) % m ≡ (a * (polynomial I s f % m)) % m
value-multiple I s m a f =
    polynomial-multiple I s m a f ∙ cong_mul m a a (polynomial I s f) (polynomial I s f % m) refl (sym (cong_cut m (polynomial I s f)))

pub value-form_product : (I : Interpretation) (s : State) (m : ℕ) (f g : FlowFormTree) → polynomial I s (form_product m f g) % m ≡ ((polynomial I s f % m) * (polynomial I s g % m)) % m
value-form_product I s m f g = polynomial-form_product I s m f g ∙ mul-mod (polynomial I s f) (polynomial I s g) m
