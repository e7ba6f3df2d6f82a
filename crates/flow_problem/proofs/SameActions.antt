-- The function that compares actions decides equality.
use Rattle.std.proofs.Common.{◌≡◌, true, ◌&&◌, List, [], ◌∷◌, Option, Some, None, refl, ap, Equal}
use mathlib.Core.Path.{ap₂}
use Rattle.std.specs.Ordering.{is_eq}
use Rattle.std.proofs.lemmas.Bool.{and_parts, and_from}
use Rattle.linear_forms.proofs.SameOrder.{is_eq-true}
use Rattle.kat_model.proofs.Numbers.{nat_cmp-own}
use Rattle.kat_model.specs.Stores.{bits}
use Rattle.flow_model.specs.declared.sort.Sort.{Sort}
use Rattle.flow_model.specs.declared.sort.Sort.TheVariants.{Number, Opaque}
use Rattle.flow_forms.specs.Forms.{FlowFormTree}
use Rattle.flow_forms.specs.Order.{sort_cmp, form_cmp}
use Rattle.flow_forms.proofs.SameForms.{same_sort}
use Rattle.flow_forms.proofs.SameComparisons.{one_form, own_test}
use Rattle.flow_problem.specs.Edges.{FlowActionTree, assigned, given, is_same_set, are_same_sets, are_same_results, is_same_action}

own_sort : (a : Sort) → sort_cmp a a ≡ Equal
own_sort (Number w) = nat_cmp-own (bits w)
own_sort (Opaque k) = nat_cmp-own k

one_set : (o p : Option FlowFormTree) → is_same_set o p ≡ true → o ≡ p
one_set None None e = refl
one_set (Some f) (Some g) e = ap Some (one_form f g e)
one_set _ _ e = absurd cc

own_set : (o : Option FlowFormTree) → is_same_set o o ≡ true
own_set None = refl
own_set (Some f) = own_test f

same_sets : (os ps : List (Option FlowFormTree)) → are_same_sets os ps ≡ true → os ≡ ps
same_sets [] [] e = refl
same_sets (o ∷ os) (p ∷ ps) e =
    let h = and_parts (is_same_set o p) (are_same_sets os ps) e in
    ap₂ (λ x xs. x ∷ xs) (one_set o p h.0) (same_sets os ps h.1)
same_sets _ _ e = absurd cc

own_sets : (os : List (Option FlowFormTree)) → are_same_sets os os ≡ true
own_sets [] = refl
own_sets (o ∷ os) = and_from (is_same_set o o) (are_same_sets os os) (own_set o) (own_sets os)

same_results : (rs qs : List (Sort × FlowFormTree)) → are_same_results rs qs ≡ true → rs ≡ qs
same_results [] [] e = refl
same_results ((a, f) ∷ rs) ((b, g) ∷ qs) e =
    let h = and_parts (is_eq (sort_cmp a b) && is_eq (form_cmp f g)) (are_same_results rs qs) e in
    let k = and_parts (is_eq (sort_cmp a b)) (is_eq (form_cmp f g)) h.0 in
    rw (same_sort a b (is_eq-true (sort_cmp a b) k.0), one_form f g k.1, same_results rs qs h.1) refl
same_results _ _ e = absurd cc

own_results : (rs : List (Sort × FlowFormTree)) → are_same_results rs rs ≡ true
own_results [] = refl
own_results ((a, f) ∷ rs) =
    and_from (is_eq (sort_cmp a a) && is_eq (form_cmp f f)) (are_same_results rs rs)
    (and_from (is_eq (sort_cmp a a)) (is_eq (form_cmp f f)) (ap is_eq (own_sort a)) (own_test f))
    (own_results rs)

pub one_action : (a b : FlowActionTree) → is_same_action a b ≡ true → a ≡ b
one_action (assigned os) (assigned ps) e = ap assigned (same_sets os ps e)
one_action (given rs) (given qs) e = ap given (same_results rs qs e)
one_action _ _ e = absurd cc

pub own_action : (a : FlowActionTree) → is_same_action a a ≡ true
own_action (assigned os) = own_sets os
own_action (given rs) = own_results rs
