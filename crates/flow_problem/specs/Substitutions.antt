-- What holds of comparisons after a parallel assignment: substitution of its forms.
use Rattle.std.specs.Prelude.{ℕ, suc, Bool, false, ◌&&◌, ◌||◌, nat_eq, List, [], ◌∷◌, position, Option, Some, None, if◌then◌else◌}
use Rattle.kat_model.specs.Trees.{TestTree, prim, complement}
use Rattle.flow_model.specs.declared.sort.Sort.{Sort}
use Rattle.flow_forms.specs.Forms.{FlowFormTree, constant, term, one, factor, variable, applied, converted, no_arguments, argument}
use Rattle.flow_forms.specs.Comparisons.{FlowComparisonTree, zero_form, less_form, same_form, FlowLiteralTree, holding, is_same_comparison}
use Rattle.flow_forms.specs.Expressions.{form_of_cell}
use Rattle.flow_forms.specs.declared.substitution.Place.TheVariants as place
use Rattle.flow_forms.specs.Substitution.{substitution_fits, comparison_after}
use Rattle.flow_ways.specs.CondForms.{literal_is_small}

-- the forms of the variables after a parallel assignment: those that are set have theirs, the others stay themselves
abbrev pub set_or_own : ℕ → Sort → Option FlowFormTree → FlowFormTree
set_or_own k sort None = form_of_cell sort (variable k)
set_or_own k sort (Some f) = f

abbrev pub first_set : List (Option FlowFormTree) → Option FlowFormTree
first_set [] = None
first_set (o ∷ os) = o

abbrev pub other_sets : List (Option FlowFormTree) → List (Option FlowFormTree)
other_sets [] = []
other_sets (o ∷ os) = os

abbrev pub forms_from : ℕ → List Sort → List (Option FlowFormTree) → List FlowFormTree
forms_from k [] os = []
forms_from k (sort ∷ sorts) os = set_or_own k sort (first_set os) ∷ forms_from (suc k) sorts (other_sets os)

abbrev pub forms_after : List Sort → List (Option FlowFormTree) → List FlowFormTree
forms_after sorts os = forms_from 0 sorts os

-- whether variable x is a cell of a form, or of a part of one
abbrev pub has_variable : ℕ → FlowFormTree → Bool
has_variable x (constant c) = false
has_variable x (term t p rest) = has_variable x p || has_variable x rest
has_variable x one = false
has_variable x (factor c rest) = has_variable x c || has_variable x rest
has_variable x (variable k) = nat_eq k x
has_variable x (applied f result args) = has_variable x args
has_variable x (converted signed from to f) = has_variable x f
has_variable x no_arguments = false
has_variable x (argument sort f rest) = has_variable x f || has_variable x rest

abbrev pub comparison_has : ℕ → FlowComparisonTree → Bool
comparison_has x (zero_form w f) = has_variable x f
comparison_has x (less_form w f g) = has_variable x f || has_variable x g
comparison_has x (same_form f g) = has_variable x f || has_variable x g

-- whether some of the variables from k on that are set pass a test
abbrev pub some_set : (ℕ → Bool) → ℕ → List (Option FlowFormTree) → Bool
some_set p k [] = false
some_set p k (None ∷ os) = some_set p (suc k) os
some_set p k (Some f ∷ os) = p k || some_set p (suc k) os

abbrev pub sets_cell_of : List (Option FlowFormTree) → FlowComparisonTree → Bool
sets_cell_of os c = some_set (λ x. comparison_has x c) 0 os

-- whether no form of the substitution is too large
abbrev pub comparison_fits : List Sort → List FlowFormTree → FlowComparisonTree → Bool
comparison_fits sorts env (zero_form w f) = substitution_fits sorts env (place.InNumber w) f
comparison_fits sorts env (less_form w f g) = substitution_fits sorts env (place.InNumber w) f && substitution_fits sorts env (place.InNumber w) g
comparison_fits sorts env (same_form f g) = substitution_fits sorts env place.AsValue f && substitution_fits sorts env place.AsValue g

abbrev pub literal_if_small : FlowLiteralTree → Option FlowLiteralTree
literal_if_small l = if literal_is_small l then Some l else None

abbrev pub literal_if_fits : Bool → FlowLiteralTree → Option FlowLiteralTree
literal_if_fits fits l = if fits then literal_if_small l else None

-- the condition that a comparison holds after the assignment, unless a form is too large; a comparison none of whose
-- cells is set is kept
abbrev pub literal_after : List Sort → List (Option FlowFormTree) → FlowComparisonTree → Option FlowLiteralTree
literal_after sorts os c =
    if sets_cell_of os c
    then literal_if_fits (comparison_fits sorts (forms_after sorts os) c) (comparison_after sorts (forms_after sorts os) c)
    else Some (holding c)

-- the test of a comparison, or of its opposite, if the comparison is one of the tests
abbrev pub prim_of : List FlowComparisonTree → FlowComparisonTree → Option ℕ
prim_of tests c = position (is_same_comparison c) tests

abbrev pub complement_of : ℕ → TestTree
complement_of k = complement (prim k)
