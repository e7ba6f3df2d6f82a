-- Lists of the program as the lists that definitions are about, and what a call adds to one.
use Rattle.std.specs.Prelude.{◌≡◌, ◌&&◌, Bool, List, ◌++◌, map, Option, Result, IfOk, OnOk, Vec}
use Rattle.std.specs.Ordering.{is_eq}
use Rattle.std.specs.declared.alloc.Global.{Global}
use Rattle.kat_model.specs.Trees.{Term, kat_tree}
use Rattle.kat_model.specs.declared.tree.Kat.{Kat}
use Rattle.flow_model.specs.declared.sort.Sort.{Sort}
use Rattle.flow_forms.specs.declared.form.FlowForm.{FlowForm}
use Rattle.flow_forms.specs.declared.comparison.FlowComparison.{FlowComparison}
use Rattle.flow_forms.specs.Forms.{FlowFormTree, form_tree}
use Rattle.flow_forms.specs.Order.{sort_cmp, form_cmp}
use Rattle.flow_forms.specs.Comparisons.{FlowComparisonTree, comparison_tree}
use Rattle.flow_ways.specs.declared.condition.FlowCond.{FlowCond}
use Rattle.flow_ways.specs.declared.way.SortedForm.{SortedForm}
use Rattle.flow_ways.specs.Conditions.{FlowCondTree}
use Rattle.flow_ways.specs.CondTrees.{cond_tree}
use Rattle.flow_ways.specs.ActionTrees.{set_tree}
use Rattle.flow_ways.specs.WayTrees.{sorted_form}
use Rattle.flow_problem.specs.Edges.{FlowActionTree, Edge}
use Rattle.flow_edges.specs.declared.action.FlowAction.{FlowAction}
use Rattle.flow_edges.specs.declared.edge.FlowEdge.{FlowEdge}
use Rattle.flow_edges.specs.EdgeViews.{flow_action, flow_edge}
use Rattle.flow_edges.specs.GraphRows.{row_edges}

abbrev pub form_trees : List FlowForm → List FlowFormTree
form_trees forms = map form_tree forms

abbrev pub set_trees : List (Option FlowForm) → List (Option FlowFormTree)
set_trees sets = map set_tree sets

abbrev pub sorted_forms : List SortedForm → List (Sort × FlowFormTree)
sorted_forms results = map sorted_form results

abbrev pub comparison_trees : List FlowComparison → List FlowComparisonTree
comparison_trees tests = map comparison_tree tests

abbrev pub cond_trees : List FlowCond → List FlowCondTree
cond_trees conds = map cond_tree conds

abbrev pub action_trees : List FlowAction → List FlowActionTree
action_trees actions = map flow_action actions

abbrev pub edge_trees : List FlowEdge → List Edge
edge_trees edges = map flow_edge edges

-- the edges from each place
abbrev pub rows_of_edges : List (Vec FlowEdge Global) → List (List Edge)
rows_of_edges rows = map row_edges rows

-- the list has what it had, and then more
abbrev pub Appends : {A B E : Type 0} → (A → B) → Result (Unit {0}) E → Vec A Global → Vec A Global → List B → Type 0
Appends view result old new more = OnOk result (map view new.items ≡ map view old.items ++ more)

abbrev pub AddsSets : {E : Type 0} → Result (Unit {0}) E → Vec (Option FlowForm) Global → Vec (Option FlowForm) Global → List (Option FlowFormTree) → Type 0
AddsSets result old new more = Appends set_tree result old new more

abbrev pub AddsResults : {E : Type 0} → Result (Unit {0}) E → Vec SortedForm Global → Vec SortedForm Global → List (Sort × FlowFormTree) → Type 0
AddsResults result old new more = Appends sorted_form result old new more

abbrev pub AddsEdges : {E : Type 0} → Result (Unit {0}) E → Vec FlowEdge Global → Vec FlowEdge Global → List Edge → Type 0
AddsEdges result old new more = Appends flow_edge result old new more

abbrev pub AddsTerms : {E : Type 0} → Result (Unit {0}) E → Vec Kat Global → Vec Kat Global → List Term → Type 0
AddsTerms result old new more = Appends kat_tree result old new more

abbrev pub AddsConds : {E : Type 0} → Result (Unit {0}) E → Vec FlowCond Global → Vec FlowCond Global → List FlowCondTree → Type 0
AddsConds result old new more = Appends cond_tree result old new more

-- the value or the list that a call makes, as a definition gives it
abbrev pub Makes : {A B E : Type 0} → (A → B) → Result A E → B → Type 0
Makes view result value = IfOk result (λ made. view made ≡ value)

abbrev pub MakesList : {A B E : Type 0} → (A → B) → Result (Vec A Global) E → List B → Type 0
MakesList view result values = IfOk result (λ made. map view made.items ≡ values)

abbrev pub is_one_result : SortedForm → SortedForm → Bool
is_one_result left right = is_eq (sort_cmp left.sort right.sort) && is_eq (form_cmp (form_tree left.form) (form_tree right.form))
