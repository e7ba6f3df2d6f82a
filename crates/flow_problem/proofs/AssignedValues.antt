-- A comparison holds after a parallel assignment exactly when its substitution holds before it.
use Rattle.std.proofs.Common.{◌≡◌, ℕ, zero, suc, ◌+◌, ◌*◌, ◌%◌, Bool, true, false, ◌||◌, nat_eq, nat_lt, List, [], ◌∷◌, length, Option, Some, None, slice_index_or, if◌then◌else◌, refl, sym, ◌∙◌, ap, subst, arith}
use mathlib.Core.Path.{ap₂}
use Rattle.std.proofs.lemmas.Bool.{both_ways, or_parts, or_left, or_right}
use Rattle.std.proofs.lemmas.Bool.Decides.{nat_tests}
use Rattle.kat_model.specs.Stores.{modulus}
use Rattle.flow_model.specs.declared.sort.Sort.{Sort}
use Rattle.flow_model.specs.Sorts.{State, IsState, value_in}
use Rattle.flow_model.specs.Interpretations.{Interpretation, conversion, first}
use Rattle.flow_forms.specs.Forms.{FlowFormTree, constant, term, one, factor, variable, applied, converted, no_arguments, argument}
use Rattle.flow_forms.specs.Values.{form_values, polynomial, form_value}
use Rattle.flow_forms.specs.Expressions.{HasForms}
use Rattle.flow_forms.specs.Comparisons.{FlowComparisonTree, zero_form, less_form, same_form, FlowLiteralTree, holding, comparison_holds, literal_holds}
use Rattle.flow_forms.specs.Substitution.{comparison_after}
use Rattle.flow_forms.proofs.SubstitutedValues.{holds-comparison_after}
use Rattle.flow_ways.specs.Ways.{state_of}
use Rattle.flow_ways.specs.Actions.{new_value, after_from, after_action}
use Rattle.flow_ways.specs.CondForms.{literal_is_small}
use Rattle.flow_ways.proofs.States.{has_forms, own_value}
use Rattle.flow_problem.specs.Substitutions.{set_or_own, other_sets, forms_from, forms_after, has_variable, comparison_has, some_set, sets_cell_of, comparison_fits, literal_if_small, literal_if_fits, literal_after}
use Rattle.flow_problem.proofs.EdgeRelations.{after_none}

-- ---- the forms of the variables after an assignment

length-forms_from : (k : ℕ) (sorts : List Sort) (os : List (Option FlowFormTree)) → length (forms_from k sorts os) ≡ length sorts
length-forms_from k [] os = refl
length-forms_from k (sort ∷ sorts) os = ap suc (length-forms_from (suc k) sorts (other_sets os))

module _ (I : Interpretation) (s : State) where
  set_value : (k : ℕ) (sort : Sort) (o : Option FlowFormTree) (n : ℕ) → form_value I s sort (set_or_own k sort None) ≡ n → form_value I s sort (set_or_own k sort o) ≡ new_value I s sort n o
  set_value k sort None n e = e
  set_value k sort (Some f) n e = refl

  after_state : (k : ℕ) (sorts : List Sort) (os : List (Option FlowFormTree)) (ns : State) → ((j : ℕ) → slice_index_or s (k + j) 0 ≡ slice_index_or ns j 0) → IsState sorts ns →
      state_of I s sorts (forms_from k sorts os) ≡ after_from I s sorts os ns
  after_state k [] os [] h o = refl
  after_state k [] os (n ∷ ns) h o = absurd o
  after_state k (sort ∷ sorts) os [] h o = absurd o
  after_state k (sort ∷ sorts) [] (n ∷ ns) h o =
      ap₂ (λ x xs. x ∷ xs)
      (own_value I s sort k n (ap (λ i. slice_index_or s i 0) (omega arith) ∙ h 0) o.0)
      (after_state (suc k) sorts [] ns (λ j. ap (λ i. slice_index_or s i 0) (omega arith) ∙ h (suc j)) o.1 ∙ after_none I s sorts [] ns refl)
  after_state k (sort ∷ sorts) (x ∷ os) (n ∷ ns) h o =
      ap₂ (λ x xs. x ∷ xs)
      (set_value k sort x n (own_value I s sort k n (ap (λ i. slice_index_or s i 0) (omega arith) ∙ h 0) o.0))
      (after_state (suc k) sorts os ns (λ j. ap (λ i. slice_index_or s i 0) (omega arith) ∙ h (suc j)) o.1)

  forms_there : (sorts : List Sort) (os : List (Option FlowFormTree)) → IsState sorts s → HasForms I s sorts (forms_after sorts os) (after_action I s sorts os)
  forms_there sorts os is =
      subst (HasForms I s sorts (forms_after sorts os))
      (after_state 0 sorts os s (λ j. ap (λ i. slice_index_or s i 0) (omega arith)) is)
      (has_forms I s sorts (forms_after sorts os) (length-forms_from 0 sorts os))

  -- ---- variables that are not set

  unset : (p : ℕ → Bool) (k : ℕ) (sorts : List Sort) (os : List (Option FlowFormTree)) (ns : State) → some_set p k os ≡ false → (x : ℕ) → p (k + x) ≡ true →
      slice_index_or (after_from I s sorts os ns) x 0 ≡ slice_index_or ns x 0
  unset p k [] os ns e x h = refl
  unset p k (sort ∷ sorts) [] ns e x h = refl
  unset p k (sort ∷ sorts) (o ∷ os) [] e x h = refl
  unset p k (sort ∷ sorts) (None ∷ os) (n ∷ ns) e zero h = refl
  unset p k (sort ∷ sorts) (None ∷ os) (n ∷ ns) e (suc x) h = unset p (suc k) sorts os ns e x (ap p (omega arith) ∙ h)
  unset p k (sort ∷ sorts) (Some f ∷ os) (n ∷ ns) e zero h = absurd (both_ways (p k) (or_parts (p k) (some_set p (suc k) os) e).0 (ap p (omega arith) ∙ h))
  unset p k (sort ∷ sorts) (Some f ∷ os) (n ∷ ns) e (suc x) h = unset p (suc k) sorts os ns (or_parts (p k) (some_set p (suc k) os) e).1 x (ap p (omega arith) ∙ h)

-- ---- forms whose variables have the same values

abbrev Agree : (ℕ → Bool) → State → State → Type 0
Agree p s t = (x : ℕ) → p x ≡ true → slice_index_or s x 0 ≡ slice_index_or t x 0

agree_left : (a b : ℕ → Bool) (s t : State) → Agree (λ x. a x || b x) s t → Agree a s t
agree_left a b s t h x e = h x (or_left (a x) (b x) e)

agree_right : (a b : ℕ → Bool) (s t : State) → Agree (λ x. a x || b x) s t → Agree b s t
agree_right a b s t h x e = h x (or_right (a x) (b x) e)

own_number : (k : ℕ) → nat_eq k k ≡ true
own_number k = grind (arith, nat_tests)

module _ (I : Interpretation) (s t : State) where
  values_agree : (f : FlowFormTree) → Agree (λ x. has_variable x f) s t → form_values I s f ≡ form_values I t f
  values_agree (constant c) h = refl
  values_agree (term a p rest) h =
      ap₂ (λ x y. (a * first x + first y) ∷ [])
      (values_agree p (agree_left (λ x. has_variable x p) (λ x. has_variable x rest) s t h))
      (values_agree rest (agree_right (λ x. has_variable x p) (λ x. has_variable x rest) s t h))
  values_agree one h = refl
  values_agree (factor c rest) h =
      ap₂ (λ x y. (first x * first y) ∷ [])
      (values_agree c (agree_left (λ x. has_variable x c) (λ x. has_variable x rest) s t h))
      (values_agree rest (agree_right (λ x. has_variable x c) (λ x. has_variable x rest) s t h))
  values_agree (variable k) h = ap (λ n. n ∷ []) (h k (own_number k))
  values_agree (applied f result args) h = ap (λ x. value_in result (I f x) ∷ []) (values_agree args h)
  values_agree (converted signed from to f) h = ap (λ x. conversion signed from to (first x % modulus from) ∷ []) (values_agree f h)
  values_agree no_arguments h = refl
  values_agree (argument sort f rest) h =
      ap₂ (λ x y. value_in sort (first x) ∷ y)
      (values_agree f (agree_left (λ x. has_variable x f) (λ x. has_variable x rest) s t h))
      (values_agree rest (agree_right (λ x. has_variable x f) (λ x. has_variable x rest) s t h))

  polynomials_agree : (f : FlowFormTree) → Agree (λ x. has_variable x f) s t → polynomial I s f ≡ polynomial I t f
  polynomials_agree f h = ap first (values_agree f h)

  comparisons_agree : (c : FlowComparisonTree) → Agree (λ x. comparison_has x c) s t → comparison_holds I s c ≡ comparison_holds I t c
  comparisons_agree (zero_form w f) h = ap (λ n. nat_eq (n % modulus w) 0) (polynomials_agree f h)
  comparisons_agree (less_form w f g) h =
      ap₂ (λ m n. nat_lt (m % modulus w) (n % modulus w))
      (polynomials_agree f (agree_left (λ x. has_variable x f) (λ x. has_variable x g) s t h))
      (polynomials_agree g (agree_right (λ x. has_variable x f) (λ x. has_variable x g) s t h))
  comparisons_agree (same_form f g) h =
      ap₂ (λ m n. nat_eq m n)
      (polynomials_agree f (agree_left (λ x. has_variable x f) (λ x. has_variable x g) s t h))
      (polynomials_agree g (agree_right (λ x. has_variable x f) (λ x. has_variable x g) s t h))

-- ---- comparisons after an assignment

small_is : (l k : FlowLiteralTree) → literal_if_small l ≡ Some k → l ≡ k
small_is l k e = by_test (literal_is_small l) e
  where
    by_test : (b : Bool) → (if b then Some l else None) ≡ Some k → l ≡ k
    by_test true q = cc
    by_test false q = absurd cc

fitting_is : (b : Bool) (l k : FlowLiteralTree) → literal_if_fits b l ≡ Some k → l ≡ k
fitting_is true l k e = small_is l k e
fitting_is false l k e = absurd cc

pub holds-literal_after : (I : Interpretation) (s : State) (sorts : List Sort) (os : List (Option FlowFormTree)) (c : FlowComparisonTree) (l : FlowLiteralTree) → IsState sorts s → literal_after sorts os c ≡ Some l →
    literal_holds I s l ≡ comparison_holds I (after_action I s sorts os) c
holds-literal_after I s sorts os c l is e = by_test (sets_cell_of os c) refl e
  where
    after : State
    after = after_action I s sorts os

    kept : sets_cell_of os c ≡ false → comparison_holds I s c ≡ comparison_holds I after c
    kept u =
        sym (comparisons_agree I after s c
        (λ x h. unset I s (λ y. comparison_has y c) 0 sorts os s u x (ap (λ y. comparison_has y c) (omega arith) ∙ h)))

    by_test : (b : Bool) → sets_cell_of os c ≡ b →
        (if b then literal_if_fits (comparison_fits sorts (forms_after sorts os) c) (comparison_after sorts (forms_after sorts os) c) else Some (holding c)) ≡ Some l →
        literal_holds I s l ≡ comparison_holds I after c
    by_test true u q =
        ap (literal_holds I s) (sym (fitting_is (comparison_fits sorts (forms_after sorts os) c) (comparison_after sorts (forms_after sorts os) c) l q))
        ∙ holds-comparison_after I s sorts (forms_after sorts os) after (forms_there I s sorts os is) c
    by_test false u q =
        let same : holding c ≡ l = cc in
        ap (literal_holds I s) (sym same) ∙ kept u
