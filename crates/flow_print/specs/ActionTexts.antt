-- The text of actions.
use Rattle.std.specs.Prelude.{ℕ, ◌+◌, List, [], ◌∷◌, ◌++◌, codes, Bool, true, false, Option, Some, None}
use Rattle.flow_model.specs.declared.sort.Sort.{Sort}
use Rattle.flow_forms.specs.Forms.{FlowFormTree}
use Rattle.flow_problem.specs.Edges.{FlowActionTree, assigned, given}
use Rattle.flow_print.specs.NameTables.{NameTable, variable_text, variable_width, sort_width}
use Rattle.flow_print.specs.FormTexts.{comma_text, form_text}

-- whether the next part is the first of a list still, after a form or none
abbrev pub stays_first : Bool → Option FlowFormTree → Bool
stays_first first None = first
stays_first first (Some f) = false

-- the variables from k on that are set
abbrev pub target_text : NameTable → ℕ → Bool → Option FlowFormTree → List ℕ
target_text names k first None = []
target_text names k first (Some f) = comma_text first ++ variable_text names k

abbrev pub targets_text : NameTable → ℕ → Bool → List (Option FlowFormTree) → List ℕ
targets_text names k first [] = []
targets_text names k first (o ∷ os) = target_text names k first o ++ targets_text names (k + 1) (stays_first first o) os

-- the forms that the variables from k on are set to
abbrev pub value_text : NameTable → ℕ → Bool → Option FlowFormTree → List ℕ
value_text names k first None = []
value_text names k first (Some f) = comma_text first ++ form_text names (variable_width names k) f

abbrev pub values_text : NameTable → ℕ → Bool → List (Option FlowFormTree) → List ℕ
values_text names k first [] = []
values_text names k first (o ∷ os) = value_text names k first o ++ values_text names (k + 1) (stays_first first o) os

-- the results of a `return`
abbrev pub results_text : NameTable → Bool → List (Sort × FlowFormTree) → List ℕ
results_text names first [] = []
results_text names first (r ∷ rs) = comma_text first ++ form_text names (sort_width r.0) r.1 ++ results_text names false rs

-- a parallel assignment, such as `q, n := q + 1, load(m, q)`, or a `return`, such as `return q - p`
abbrev pub action_text : NameTable → FlowActionTree → List ℕ
action_text names (assigned os) = targets_text names 0 true os ++ codes " := " ++ values_text names 0 true os
action_text names (given rs) = codes "return " ++ results_text names true rs
