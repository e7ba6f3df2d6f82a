-- The variables of the program with a new one, which has the number of a test in the place of its cell.
use Rattle.std.specs.Prelude.{◌≡◌, ◌&&◌, Bool, true, false, List, [], ◌∷◌, ◌++◌, map, Option, Some, None, if◌then◌else◌}
use Rattle.flow_model.specs.declared.sort.Sort.{Sort}
use Rattle.flow_forms.specs.Forms.{FlowFormTree, form_tree}
use Rattle.flow_forms.specs.Comparisons.{FlowComparisonTree}
use Rattle.flow_ways.specs.Conditions.{FlowCondTree, atom, negation, value_known}
use Rattle.flow_problem.specs.Edges.{FlowActionTree, Edge}
use Rattle.flow_problem.specs.Splits.{CellTest, sorts_with, forms_with, has_cell, with_cell_number, number_fits, action_reads, action_fits, action_with, edge_where_other, facts_of_all}
use Rattle.flow_edges.specs.declared.splits.number.WithNumber.{WithNumber}

-- the sorts and forms of the variables with the new one
abbrev pub HasNumber : List Sort → CellTest → WithNumber → Type 0
HasNumber sorts x v = (v.sorts.items ≡ sorts_with sorts x) × (map form_tree v.forms.items ≡ forms_with sorts x)

-- the action with the number in the place of the cell, if it has the cell and no form is too large
abbrev pub action_if : Bool → FlowActionTree → Option FlowActionTree
action_if b action = if b then Some action else None

abbrev pub number_action : List Sort → CellTest → FlowActionTree → Option FlowActionTree
number_action sorts x action = action_if (action_reads x.cell action && action_fits sorts x action) (action_with sorts x action)

-- a result with the number in the place of the cell
abbrev pub has_in : FlowFormTree → Sort × FlowFormTree → Bool
has_in cell r = has_cell cell r.1

abbrev pub result_with : List Sort → CellTest → Sort × FlowFormTree → Sort × FlowFormTree
result_with sorts x r = (r.0, with_cell_number sorts x r.0 r.1)

abbrev pub result_fits : List Sort → CellTest → Sort × FlowFormTree → Bool
result_fits sorts x r = number_fits sorts x r.0 r.1

-- an edge with more tests and another action
abbrev pub with_action : List FlowCondTree → FlowActionTree → Edge → Edge
with_action bs action e = record { tests = e.tests ++ bs; action = action; target = e.target }

-- the edges that come of an edge by what its tests say of a comparison, with the action where the comparison holds
abbrev pub edges_known : FlowComparisonTree → FlowActionTree → Edge → Option Bool → List Edge
edges_known c action e None = with_action (atom c ∷ []) action e ∷ edge_where_other (negation (atom c) ∷ []) e ∷ []
edges_known c action e (Some true) = with_action [] action e ∷ []
edges_known c action e (Some false) = e ∷ []

-- the same, or the edge as it is if there is no such action
abbrev pub edges_or_whole : CellTest → Edge → Option FlowActionTree → List Edge
edges_or_whole x e None = e ∷ []
edges_or_whole x e (Some action) = edges_known x.comparison action e (value_known (facts_of_all e.tests) x.comparison)
