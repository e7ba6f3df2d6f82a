-- The values of forms in a state under an interpretation of the functions.
use Rattle.std.specs.Prelude.{ℕ, ◌+◌, ◌*◌, ◌%◌, List, [], ◌∷◌, slice_index_or}
use Rattle.kat_model.specs.Stores.{modulus}
use Rattle.flow_model.specs.declared.sort.Sort.{Sort}
use Rattle.flow_model.specs.Sorts.{State, value_in}
use Rattle.flow_model.specs.Interpretations.{Interpretation, conversion, first}
use Rattle.flow_forms.specs.Forms.{FlowFormTree, constant, term, one, factor, variable, applied, converted, no_arguments, argument}

-- The values of arguments, or the one value of another form. Sums and products are those of natural numbers.
abbrev pub form_values : Interpretation → State → FlowFormTree → List ℕ
form_values I s (constant c) = c ∷ []
form_values I s (term t p rest) = (t * first (form_values I s p) + first (form_values I s rest)) ∷ []
form_values I s one = 1 ∷ []
form_values I s (factor c rest) = (first (form_values I s c) * first (form_values I s rest)) ∷ []
form_values I s (variable k) = slice_index_or s k 0 ∷ []
form_values I s (applied f result args) = value_in result (I f (form_values I s args)) ∷ []
form_values I s (converted signed from to f) = conversion signed from to (first (form_values I s f) % modulus from) ∷ []
form_values I s no_arguments = []
form_values I s (argument sort f rest) = value_in sort (first (form_values I s f)) ∷ form_values I s rest

-- the value of a form as a polynomial over the natural numbers
abbrev pub polynomial : Interpretation → State → FlowFormTree → ℕ
polynomial I s f = first (form_values I s f)

-- the value of a form of a sort
abbrev pub form_value : Interpretation → State → Sort → FlowFormTree → ℕ
form_value I s sort f = value_in sort (polynomial I s f)
