-- Simple hypotheses by their factors and by computable tests, and what they rule out.
use Rattle.std.proofs.Common.{◌≡◌, ℕ, ◌⊎◌, inl, inr, ⊎_elim, List, [], ◌∷◌, ◌++◌, Bool, true, false, not, ◌&&◌, eqb, refl, sym, ap, ◌∙◌, subst, append_assoc, eqb-true, eq-eqb}
use Rattle.std.proofs.Math.Bool.{and-true, and-false}
use Rattle.std.proofs.lemmas.Bool.{and_parts, or_cases, or_left, or_right, false_from_ne_true}
use Rattle.std.proofs.lemmas.List.Folds.{list_all-append}
use Rattle.kat_model.specs.Trees.{Term, zero, one, test, act, sum, product, star, is_test}
use Rattle.kat_model.specs.Steps.{Atom, out}
use Rattle.kat_model.proofs.Lists.{has_any, any_has}
use Rattle.goal_forms.specs.TestTerms.{are_tests, all_true, factors, StepForm, HasStepForm, IsSimple, AreSimple, IsAllowed, RulesOut, IsRuledOut}
use Rattle.goal_forms.specs.HypothesisForms.{is_step, is_simple, allows, rules_out, some_rules_out}

-- ---- factors

-- the factors of a term are test terms exactly when the term is a test term
pub test_factors : (e : Term) → is_test e ≡ true → are_tests (factors e) ≡ true
test_factors zero h = refl
test_factors one h = refl
test_factors (test b) h = refl
test_factors (act a) h = cc
test_factors (sum e f) h = rw h refl
test_factors (product e f) h =
    let p = and_parts (is_test e) (is_test f) h in
    rw (list_all-append is_test (factors e) (factors f), test_factors e p.0, test_factors f p.1) refl
test_factors (star e) h = cc

pub factors_test : (e : Term) → are_tests (factors e) ≡ true → is_test e ≡ true
factors_test zero h = refl
factors_test one h = refl
factors_test (test b) h = refl
factors_test (act a) h = cc
factors_test (sum e f) h = (and_parts (is_test (sum e f)) true h).0
factors_test (product e f) h =
    let p = and_parts (are_tests (factors e)) (are_tests (factors f)) (sym (list_all-append is_test (factors e) (factors f)) ∙ h) in
    rw (factors_test e p.0, factors_test f p.1) refl
factors_test (star e) h = cc

-- a term accepts an atom exactly when all its factors do
pub out_factors : (e : Term) (x : Atom) → all_true (factors e) x ≡ out e x
out_factors zero x = refl
out_factors one x = refl
out_factors (test b) x = and-true (out (test b) x)
out_factors (act a) x = refl
out_factors (sum e f) x = and-true (out (sum e f) x)
out_factors (product e f) x = rw (list_all-append (λ g. out g x) (factors e) (factors f), out_factors e x, out_factors f x) refl
out_factors (star e) x = refl

-- a member of two concatenated lists is in the first or in the second
pub split_at_member : {X : Type 0} (xs ys b c : List X) (z : X) → xs ++ ys ≡ b ++ z ∷ c → ((m : List X) × (xs ≡ b ++ z ∷ m) × (c ≡ m ++ ys)) ⊎ ((m : List X) × (b ≡ xs ++ m) × (ys ≡ m ++ z ∷ c))
split_at_member [] ys b c z e = inr (b, refl, e)
split_at_member (x ∷ xs) ys [] c z e = let first : x ≡ z = cc in let rest : xs ++ ys ≡ c = cc in inl (xs, ap (λ y. y ∷ xs) first, sym rest)
split_at_member (x ∷ xs) ys (w ∷ b) c z e =
    let first : x ≡ w = cc in
    let rest : xs ++ ys ≡ b ++ z ∷ c = cc in
    ⊎_elim
    (λ p. inl (p.0, (rw first (ap (λ l. w ∷ l) p.1)), p.2))
    (λ p. inr (p.0, (rw first (ap (λ l. w ∷ l) p.1)), p.2))
    (split_at_member xs ys b c z rest)

-- a list of one factor has an action in it only if it is that action
lone_factor : (e : Term) (b c : List Term) (a : ℕ) → e ∷ [] ≡ b ++ act a ∷ c → (e ≡ act a) × ((b ≡ []) × (c ≡ []))
lone_factor e [] c a h = (cc, (refl, cc))
lone_factor e (x ∷ []) c a h = cc
lone_factor e (x ∷ y ∷ b) c a h = cc

-- a list with an action in it is not a list of test terms
not_all_tests : (b c : List Term) (a : ℕ) → are_tests (b ++ act a ∷ c) ≡ true → ⊥
not_all_tests b c a h =
    let p = and_parts (are_tests b) (are_tests (act a ∷ c)) (sym (list_all-append is_test b (act a ∷ c)) ∙ h) in
    let clash = p.1 in cc

-- the action of a product is in the first factor or in the second
pub product_forms : (e f : Term) (s : StepForm) → HasStepForm (product e f) s →
    ((m : List Term) × HasStepForm e (record { befores = s.befores; act = s.act; afters = m }) × (s.afters ≡ m ++ factors f) × (is_test f ≡ true) × (is_test e ≡ false))
    ⊎ ((m : List Term) × HasStepForm f (record { befores = m; act = s.act; afters = s.afters }) × (s.befores ≡ factors e ++ m) × (is_test e ≡ true))
product_forms e f s has =
    ⊎_elim
    (λ p.
    let afters = and_parts (are_tests p.0) (are_tests (factors f)) (sym (list_all-append is_test p.0 (factors f)) ∙ subst (λ l. are_tests l ≡ true) p.2 has.afters) in
    inl (p.0, record { factors = p.1; befores = has.befores; afters = afters.0 }, p.2, factors_test f afters.1, no_test p.0 p.1))
    (λ p.
    let befores = and_parts (are_tests (factors e)) (are_tests p.0) (sym (list_all-append is_test (factors e) p.0) ∙ subst (λ l. are_tests l ≡ true) p.1 has.befores) in
    inr (p.0, record { factors = p.2; befores = befores.1; afters = has.afters }, p.1, factors_test e befores.0))
    (split_at_member (factors e) (factors f) s.befores s.afters (act s.act) has.factors)
  where
    no_test : (m : List Term) → factors e ≡ s.befores ++ act s.act ∷ m → is_test e ≡ false
    no_test m is = false_from_ne_true (is_test e) (λ h. not_all_tests s.befores m s.act (subst (λ l. are_tests l ≡ true) is (test_factors e h)))

-- ---- the test of the form

pub step_form : (h : Term) → is_step h ≡ true → (s : StepForm) × HasStepForm h s
step_form zero is = cc
step_form one is = cc
step_form (test b) is = cc
step_form (act a) is = (record { befores = []; act = a; afters = [] }, record { factors = refl; befores = refl; afters = refl })
step_form (sum e f) is = cc
step_form (product e f) is =
    ⊎_elim
    (λ p.
    let both = and_parts (is_test e) (is_step f) p in
    let s = step_form f both.1 in (
      record { befores = factors e ++ s.0.befores; act = s.0.act; afters = s.0.afters },
      record {
        factors = ap (λ l. factors e ++ l) s.1.factors ∙ sym (append_assoc (factors e) s.0.befores (act s.0.act ∷ s.0.afters));
        befores = rw (list_all-append is_test (factors e) s.0.befores, test_factors e both.0, s.1.befores) refl;
        afters = s.1.afters;
      },
    ))
    (λ p.
    let both = and_parts (is_step e) (is_test f) p in
    let s = step_form e both.0 in (
      record { befores = s.0.befores; act = s.0.act; afters = s.0.afters ++ factors f },
      record {
        factors = ap (λ l. l ++ factors f) s.1.factors ∙ append_assoc s.0.befores (act s.0.act ∷ s.0.afters) (factors f);
        befores = s.1.befores;
        afters = rw (list_all-append is_test s.0.afters (factors f), s.1.afters, test_factors f both.1) refl;
      },
    ))
    (or_cases (is_test e && is_step f) (is_step e && is_test f) is)
step_form (star e) is = cc

pub form_step : (h : Term) (s : StepForm) → HasStepForm h s → is_step h ≡ true
form_step zero s has = let p = lone_factor zero s.befores s.afters s.act has.factors in let clash = p.0 in cc
form_step one s has = let p = lone_factor one s.befores s.afters s.act has.factors in let clash = p.0 in cc
form_step (test b) s has = let p = lone_factor (test b) s.befores s.afters s.act has.factors in let clash = p.0 in cc
form_step (act a) s has = refl
form_step (sum e f) s has = let p = lone_factor (sum e f) s.befores s.afters s.act has.factors in let clash = p.0 in cc
form_step (product e f) s has =
    ⊎_elim
    (λ p. or_right (is_test e && is_step f) (is_step e && is_test f) (rw (form_step e _ p.1, p.3) refl))
    (λ p. or_left (is_test e && is_step f) (is_step e && is_test f) (rw (p.3, form_step f _ p.1) refl))
    (product_forms e f s has)
form_step (star e) s has = let p = lone_factor (star e) s.befores s.afters s.act has.factors in let clash = p.0 in cc

pub simple_is : (h : Term) → is_simple h ≡ true → IsSimple h
simple_is h e = ⊎_elim inl (λ p. inr (step_form h p)) (or_cases (is_test h) (is_step h) e)

pub is_simple_of : (h : Term) → IsSimple h → is_simple h ≡ true
is_simple_of h s = ⊎_elim (λ p. or_left (is_test h) (is_step h) p) (λ p. or_right (is_test h) (is_step h) (form_step h p.0 p.1)) s

-- ---- what a hypothesis rules out

pub test_rules_nothing : (h : Term) (a : ℕ) (x y : Atom) → is_test h ≡ true → rules_out h a x y ≡ false
test_rules_nothing zero a x y t = refl
test_rules_nothing one a x y t = refl
test_rules_nothing (test b) a x y t = refl
test_rules_nothing (act b) a x y t = cc
test_rules_nothing (sum e f) a x y t = refl
test_rules_nothing (product e f) a x y t =
    let p = and_parts (is_test e) (is_test f) t in
    rw (p.0, test_rules_nothing f a x y p.1) (and-false (out e x))
test_rules_nothing (star e) a x y t = refl

abbrev form_rules : StepForm → ℕ → Atom → Atom → Bool
form_rules s a x y = eqb s.act a && (all_true s.befores x && all_true s.afters y)

regroup_after : (t b m f : Bool) → ((t && (b && m)) && f) ≡ (t && (b && (m && f)))
regroup_after true true m f = refl
regroup_after true false m f = refl
regroup_after false b m f = refl

regroup_before : (e t m c : Bool) → (e && (t && (m && c))) ≡ (t && ((e && m) && c))
regroup_before true t m c = refl
regroup_before false true m c = refl
regroup_before false false m c = refl

pub rules_by_form : (h : Term) (s : StepForm) (a : ℕ) (x y : Atom) → HasStepForm h s → rules_out h a x y ≡ form_rules s a x y
rules_by_form zero s a x y has = let p = lone_factor zero s.befores s.afters s.act has.factors in let clash = p.0 in cc
rules_by_form one s a x y has = let p = lone_factor one s.befores s.afters s.act has.factors in let clash = p.0 in cc
rules_by_form (test b) s a x y has = let p = lone_factor (test b) s.befores s.afters s.act has.factors in let clash = p.0 in cc
rules_by_form (act b) s a x y has =
    let p = lone_factor (act b) s.befores s.afters s.act has.factors in
    let own = p.0 in
    let same : b ≡ s.act = cc in
    rw (p.1.0, p.1.1, same) (sym (and-true (eqb s.act a)))
rules_by_form (sum e f) s a x y has = let p = lone_factor (sum e f) s.befores s.afters s.act has.factors in let clash = p.0 in cc
rules_by_form (product e f) s a x y has =
    ⊎_elim
    (λ p.
    rw (p.4, rules_by_form e (record { befores = s.befores; act = s.act; afters = p.0 }) a x y p.1, p.2, list_all-append (λ g. out g y) p.0 (factors f), out_factors f y)
    (regroup_after (eqb s.act a) (all_true s.befores x) (all_true p.0 y) (out f y)))
    (λ p.
    rw (p.3, rules_by_form f (record { befores = p.0; act = s.act; afters = s.afters }) a x y p.1, p.2, list_all-append (λ g. out g x) (factors e) p.0, out_factors e x)
    (regroup_before (out e x) (eqb s.act a) (all_true p.0 x) (all_true s.afters y)))
    (product_forms e f s has)
rules_by_form (star e) s a x y has = let p = lone_factor (star e) s.befores s.afters s.act has.factors in let clash = p.0 in cc

pub rules_out_given : (h : Term) (a : ℕ) (x y : Atom) → IsSimple h → rules_out h a x y ≡ true → RulesOut h a x y
rules_out_given h a x y simple e =
    ⊎_elim
    (λ t. let clash = test_rules_nothing h a x y t in cc)
    (λ p.
    let parts = and_parts (eqb p.0.act a) (all_true p.0.befores x && all_true p.0.afters y) (sym (rules_by_form h p.0 a x y p.1) ∙ e) in
    let both = and_parts (all_true p.0.befores x) (all_true p.0.afters y) parts.1 in
    record { form = p.0; is_form = p.1; action = eqb-true p.0.act a parts.0; before = both.0; after = both.1 })
    simple

pub given_rules_out : (h : Term) (a : ℕ) (x y : Atom) → RulesOut h a x y → rules_out h a x y ≡ true
given_rules_out h a x y r = rules_by_form h r.form a x y r.is_form ∙ rw (eq-eqb r.form.act a r.action, r.before, r.after) refl

-- ---- lists of hypotheses

pub allows_given : (hyps : List Term) (x : Atom) → allows hyps x ≡ true → IsAllowed hyps x
allows_given [] x e h has is = absurd has
allows_given (g ∷ hyps) x e h has is =
    let parts = and_parts (not (is_test g && out g x)) (allows hyps x) e in
    ⊎_elim
    (λ same. refused g parts.0 h same is)
    (λ k. allows_given hyps x parts.1 h k is)
    has
  where
    refused_own : (t v : Bool) → not (t && v) ≡ true → t ≡ true → v ≡ false
    refused_own true true n t = cc
    refused_own true false n t = refl
    refused_own false v n t = cc

    refused : (g : Term) → not (is_test g && out g x) ≡ true → (h : Term) → g ≡ h → is_test h ≡ true → out h x ≡ false
    refused g n h same is = subst (λ k. out k x ≡ false) same (refused_own (is_test g) (out g x) n (subst (λ k. is_test k ≡ true) (sym same) is))

pub allowed_allows : (hyps : List Term) (x : Atom) → IsAllowed hyps x → allows hyps x ≡ true
allowed_allows [] x is = refl
allowed_allows (g ∷ hyps) x is = rw (refused (is_test g) (out g x) (λ t. is g (inl refl) t), allowed_allows hyps x (λ h k. is h (inr k))) refl
  where
    refused : (t v : Bool) → (t ≡ true → v ≡ false) → not (t && v) ≡ true
    refused true true f = let clash = f refl in cc
    refused true false f = refl
    refused false v f = refl

pub ruled_out_given : (hyps : List Term) (a : ℕ) (x y : Atom) → AreSimple hyps → some_rules_out hyps a x y ≡ true → IsRuledOut hyps a x y
ruled_out_given hyps a x y simple e =
    let found = has_any (λ h. rules_out h a x y) hyps e in
    (found.0, found.1, rules_out_given found.0 a x y (simple found.0 found.1) found.2)

pub given_ruled_out : (hyps : List Term) (a : ℕ) (x y : Atom) → IsRuledOut hyps a x y → some_rules_out hyps a x y ≡ true
given_ruled_out hyps a x y r = any_has (λ h. rules_out h a x y) hyps r.0 r.1 (given_rules_out r.0 a x y r.2)
