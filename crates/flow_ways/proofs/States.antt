-- States whose variables have the values of forms.
use Rattle.std.proofs.Common.{◌≡◌, false, ℕ, zero, suc, ◌+◌, ◌%◌, List, [], ◌∷◌, length, map, set, Some, slice_get, slice_index_or, refl, sym, ◌∙◌, ap, arith}
use mathlib.Core.Path.{ap₂}
use Rattle.std.proofs.lemmas.List.{length-set}
use Rattle.std.proofs.Math.Nat.{mod-eq_of_lt}
use Rattle.kat_model.specs.Stores.{modulus}
use Rattle.flow_model.specs.declared.sort.Sort.{Sort}
use Rattle.flow_model.specs.declared.sort.Sort.TheVariants.{Number, Opaque}
use Rattle.flow_model.specs.Sorts.{State, IsState, IsValue}
use Rattle.flow_model.specs.Expressions.{ExprTree}
use Rattle.flow_model.specs.Interpretations.{Interpretation, value}
use Rattle.flow_model.specs.Runs.{with_values}
use Rattle.flow_forms.specs.Forms.{FlowFormTree, variable}
use Rattle.flow_forms.specs.Values.{form_value}
use Rattle.flow_forms.specs.Expressions.{sort_of, form_of_cell, form_of, HasForms}
use Rattle.flow_forms.proofs.Polynomials.{polynomial-cell_form}
use Rattle.flow_forms.proofs.ExpressionValues.{kept}
use Rattle.flow_ways.specs.Ways.{with_forms, state_of, own_forms_from}
use Rattle.flow_ways.specs.Sorted.{AreAssigned}

-- the variables of the state have the values of their forms
pub has_forms : (I : Interpretation) (s : State) (sorts : List Sort) (fs : List FlowFormTree) → length fs ≡ length sorts → HasForms I s sorts fs (state_of I s sorts fs)
has_forms I s [] [] l zero = refl
has_forms I s [] [] l (suc k) = refl
has_forms I s [] (f ∷ fs) l k = absurd (omega (arith, l))
has_forms I s (sort ∷ sorts) [] l k = absurd (omega (arith, l))
has_forms I s (sort ∷ sorts) (f ∷ fs) l zero = refl
has_forms I s (sort ∷ sorts) (f ∷ fs) l (suc k) = has_forms I s sorts fs (omega (arith, l)) k

-- setting a form sets the value
pub state_of-set : (I : Interpretation) (s : State) (sorts : List Sort) (fs : List FlowFormTree) (k : ℕ) (sort : Sort) (f : FlowFormTree) → length fs ≡ length sorts → slice_get sorts k ≡ Some sort → state_of I s sorts (set fs k f) ≡ set (state_of I s sorts fs) k (form_value I s sort f)
state_of-set I s [] fs zero sort f l e = absurd cc
state_of-set I s [] fs (suc k) sort f l e = absurd cc
state_of-set I s (x ∷ sorts) [] k sort f l e = absurd (omega (arith, l))
state_of-set I s (x ∷ sorts) (g ∷ fs) zero sort f l e = let q : x ≡ sort = cc in ap (λ y. form_value I s y f ∷ state_of I s sorts fs) q
state_of-set I s (x ∷ sorts) (g ∷ fs) (suc k) sort f l e =
    ap (λ ns. form_value I s x g ∷ ns) (state_of-set I s sorts fs k sort f (omega (arith, l)) e)

pub length-with_forms : (fs : List FlowFormTree) (ks : List ℕ) (gs : List FlowFormTree) → length (with_forms fs ks gs) ≡ length fs
length-with_forms fs [] gs = refl
length-with_forms fs (k ∷ ks) [] = refl
length-with_forms fs (k ∷ ks) (g ∷ gs) = length-with_forms (set fs k g) ks gs ∙ simp length-set

-- a parallel assignment of forms is one of their values
pub state_of-with_forms : (I : Interpretation) (s : State) (sorts : List Sort) (env : List FlowFormTree) (t : State) → HasForms I s sorts env t →
    (fs : List FlowFormTree) (ks : List ℕ) (es : List ExprTree) → length fs ≡ length sorts → AreAssigned sorts ks es →
    state_of I s sorts (with_forms fs ks (map (form_of sorts env) es)) ≡ with_values (state_of I s sorts fs) ks (map (value I t) es)
state_of-with_forms I s sorts env t h fs [] [] l o = refl
state_of-with_forms I s sorts env t h fs [] (e ∷ es) l o = absurd o
state_of-with_forms I s sorts env t h fs (k ∷ ks) [] l o = absurd o
state_of-with_forms I s sorts env t h fs (k ∷ ks) (e ∷ es) l (p, q, o) =
    state_of-with_forms I s sorts env t h (set fs k (form_of sorts env e)) ks es (simp length-set l) o
    ∙ ap (λ u. with_values u ks (map (value I t) es))
    (state_of-set I s sorts fs k (sort_of sorts e) (form_of sorts env e) l p
    ∙ ap (λ n. set (state_of I s sorts fs) k n) (sym (kept I s sorts env t h false e q)))

pub own_value : (I : Interpretation) (s : State) (sort : Sort) (k n : ℕ) → slice_index_or s k 0 ≡ n → IsValue sort n → form_value I s sort (form_of_cell sort (variable k)) ≡ n
own_value I s (Number w) k n e h =
    ap (λ x. x % modulus w) (polynomial-cell_form I s (variable k)) ∙ ap (λ x. x % modulus w) e ∙ mod-eq_of_lt h
own_value I s (Opaque j) k n e h = e

-- where each variable stands for itself, the state is the one before
own_state_from : (I : Interpretation) (s : State) (k : ℕ) (sorts : List Sort) (ns : State) → ((j : ℕ) → slice_index_or s (k + j) 0 ≡ slice_index_or ns j 0) → IsState sorts ns → state_of I s sorts (own_forms_from k sorts) ≡ ns
own_state_from I s k [] [] h o = refl
own_state_from I s k [] (n ∷ ns) h o = absurd o
own_state_from I s k (sort ∷ sorts) [] h o = absurd o
own_state_from I s k (sort ∷ sorts) (n ∷ ns) h o =
    ap₂ (λ x xs. x ∷ xs)
    (own_value I s sort k n (ap (λ i. slice_index_or s i 0) (omega arith) ∙ h 0) o.0)
    (own_state_from I s (suc k) sorts ns (λ j. ap (λ i. slice_index_or s i 0) (omega arith) ∙ h (suc j)) o.1)

pub own_state : (I : Interpretation) (s : State) (sorts : List Sort) → IsState sorts s → state_of I s sorts (own_forms_from 0 sorts) ≡ s
own_state I s sorts o = own_state_from I s 0 sorts s (λ j. ap (λ i. slice_index_or s i 0) (omega arith)) o

pub own_length : (k : ℕ) (sorts : List Sort) → length (own_forms_from k sorts) ≡ length sorts
own_length k [] = refl
own_length k (sort ∷ sorts) = ap suc (own_length (suc k) sorts)
