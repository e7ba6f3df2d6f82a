-- What a split by a test of a cell makes of forms, assignments, results and actions of the program.
use Rattle.std.specs.Prelude.{◌≡◌, ◌<◌, Bool, true, false, ℕ, List, [], ◌∷◌, length, map, Option, Result, IfOk, IfErr, Vec}
use Rattle.std.specs.List.{list_all, flat_map}
use Rattle.std.specs.declared.alloc.Global.{Global}
use Rattle.kat_model.specs.declared.expression.Width.{Width}
use Rattle.flow_model.specs.declared.sort.Sort.{Sort}
use Rattle.flow_forms.specs.declared.form.FlowForm.{FlowForm}
use Rattle.flow_forms.specs.declared.comparison.FlowComparison.{FlowComparison}
use Rattle.flow_forms.specs.declared.fault.FormFault.{FormFault}
use Rattle.flow_forms.specs.declared.fault.FormFault.TheVariants as fault
use Rattle.flow_forms.specs.Forms.{FlowFormTree, form_tree}
use Rattle.flow_forms.specs.Comparisons.{comparison_tree}
use Rattle.flow_ways.specs.declared.limits.TheConstants.{MAX_WAYS}
use Rattle.flow_ways.specs.declared.condition.FlowCond.{FlowCond}
use Rattle.flow_ways.specs.Conditions.{atom, negation, facts_of, value_known}
use Rattle.flow_ways.specs.CondTrees.{cond_tree}
use Rattle.flow_ways.specs.declared.way.SortedForm.{SortedForm}
use Rattle.flow_ways.specs.ActionTrees.{set_tree}
use Rattle.flow_ways.specs.WayTrees.{sorted_form}
use Rattle.flow_problem.specs.Edges.{FlowActionTree, Edge}
use Rattle.flow_problem.specs.Splits.{with_cell_number, number_fits, set_fits, sets_fit, action_fits, set_with, sets_with, action_with, edge_where_other, split_edge, split_edges, facts_of_all, CellTest, cell_test_if, signed_cell_test, product_test}
use Rattle.flow_edges.specs.declared.action.FlowAction.{FlowAction}
use Rattle.flow_edges.specs.declared.edge.FlowEdge.{FlowEdge}
use Rattle.flow_edges.specs.declared.splits.number.Split.{Split}
use Rattle.flow_edges.specs.declared.splits.cell_test.CellTest.{CellTest as ACellTest}
use Rattle.flow_edges.specs.declared.splits.split_fault.SplitFault.{SplitFault}
use Rattle.flow_edges.specs.declared.splits.split_fault.SplitFault.TheVariants as split
use Rattle.flow_edges.specs.CellTests.{cell_test_tree, test_if_any, tested_sum}
use Rattle.flow_edges.specs.EdgeViews.{flow_action, flow_edge}
use Rattle.flow_edges.specs.Numbers.{HasNumber, result_with, result_fits, number_action, with_action, edges_known}

-- a call succeeds only where no form is too large, and reports one only where one is
abbrev pub OkOnlyIf : {X : Type 0} → Result X FormFault → Bool → Type 0
OkOnlyIf result fits = IfOk result (λ _. fits ≡ true)

abbrev pub LargeOnlyIfNot : {X : Type 0} → Result X FormFault → Bool → Type 0
LargeOnlyIfNot result fits = IfErr result (λ e. e ≡ fault.TooLarge → fits ≡ false)

-- the variables of the split have the number of its test
abbrev pub IsNumbered : Split → Type 0
IsNumbered s = HasNumber s.sorts.now (cell_test_tree s.test.now) s.variables

abbrev pub form_by : Split → Sort → FlowForm → FlowFormTree
form_by s sort form = with_cell_number s.sorts.now (cell_test_tree s.test.now) sort (form_tree form)

abbrev pub form_fits : Split → Sort → FlowForm → Bool
form_fits s sort form = number_fits s.sorts.now (cell_test_tree s.test.now) sort (form_tree form)

-- what the variable with a number is set to
abbrev pub set_by : Split → ℕ → Sort → Option FlowForm → Option FlowFormTree
set_by s number sort set = set_with s.sorts.now (cell_test_tree s.test.now) number sort (set_tree set)

abbrev pub set_fits_by : Split → Sort → Option FlowForm → Bool
set_fits_by s sort set = set_fits s.sorts.now (cell_test_tree s.test.now) sort (set_tree set)

-- what the variables from a number on, whose sorts are given, are set to
abbrev pub sets_by : Split → ℕ → List Sort → List (Option FlowForm) → List (Option FlowFormTree)
sets_by s number own sets = sets_with s.sorts.now (cell_test_tree s.test.now) number own (map set_tree sets)

abbrev pub sets_fit_by : Split → List Sort → List (Option FlowForm) → Bool
sets_fit_by s own sets = sets_fit s.sorts.now (cell_test_tree s.test.now) own (map set_tree sets)

abbrev pub result_by : Split → SortedForm → Sort × FlowFormTree
result_by s sorted = result_with s.sorts.now (cell_test_tree s.test.now) (sorted_form sorted)

abbrev pub result_fits_by : Split → SortedForm → Bool
result_fits_by s sorted = result_fits s.sorts.now (cell_test_tree s.test.now) (sorted_form sorted)

abbrev pub results_by : Split → List SortedForm → List (Sort × FlowFormTree)
results_by s results = map (result_with s.sorts.now (cell_test_tree s.test.now)) (map sorted_form results)

abbrev pub results_fit_by : Split → List SortedForm → Bool
results_fit_by s results = list_all (result_fits s.sorts.now (cell_test_tree s.test.now)) (map sorted_form results)

abbrev pub action_by : Split → FlowAction → FlowActionTree
action_by s action = action_with s.sorts.now (cell_test_tree s.test.now) (flow_action action)

abbrev pub action_fits_by : Split → FlowAction → Bool
action_fits_by s action = action_fits s.sorts.now (cell_test_tree s.test.now) (flow_action action)

abbrev pub edges_by : Split → FlowEdge → List Edge
edges_by s edge = split_edge s.sorts.now (cell_test_tree s.test.now) (flow_edge edge)

abbrev pub read_action_by : Split → FlowAction → Option FlowActionTree
read_action_by s action = number_action s.sorts.now (cell_test_tree s.test.now) (flow_action action)

-- ---- edges

-- an edge with a test that holds and an action, with its opposite, and both
abbrev pub where_holds : FlowComparison → FlowAction → FlowEdge → Edge
where_holds comparison action edge = with_action (atom (comparison_tree comparison) ∷ []) (flow_action action) (flow_edge edge)

abbrev pub where_fails : FlowComparison → FlowEdge → Edge
where_fails comparison edge = edge_where_other (negation (atom (comparison_tree comparison)) ∷ []) (flow_edge edge)

abbrev pub both_edges : FlowComparison → FlowAction → FlowEdge → List Edge
both_edges comparison action edge = where_holds comparison action edge ∷ where_fails comparison edge ∷ []

-- what an edge becomes by what its tests say of a comparison
abbrev pub edges_by_value : FlowComparison → FlowAction → FlowEdge → Option Bool → List Edge
edges_by_value comparison action edge known = edges_known (comparison_tree comparison) (flow_action action) (flow_edge edge) known

-- edges, split by one test and by each of some tests
abbrev pub split_by_test : List Sort → ACellTest → Vec FlowEdge Global → List Edge
split_by_test sorts test edges = flat_map (split_edge sorts (cell_test_tree test)) (map flow_edge edges.items)

abbrev pub split_all : List Sort → List ACellTest → Vec FlowEdge Global → List Edge
split_all sorts tests edges = split_edges sorts (map cell_test_tree tests) (map flow_edge edges.items)

-- a call reports too many edges only where there are
abbrev pub TooManyOnlyIf : {X : Type 0} → Result X SplitFault → List Edge → Type 0
TooManyOnlyIf result edges = IfErr result (λ e. e ≡ split.TooManyPaths → MAX_WAYS < length edges)

-- ---- tests of cells

-- the test that a call makes, if there is one
abbrev pub MakesTest : {E : Type 0} → Result (Option ACellTest) E → List CellTest → Type 0
MakesTest result test = IfOk result (λ made. test_if_any made ≡ test)

abbrev pub test_where : Bool → Width → FlowForm → FlowForm → ℕ → List CellTest
test_where is_test width form cell number = cell_test_if is_test width (form_tree form) (form_tree cell) number

abbrev pub signed_test_of : List Sort → Width → FlowForm → ℕ → FlowForm → ℕ → List CellTest
signed_test_of sorts width form times cell number = signed_cell_test sorts width (form_tree form) times (form_tree cell) number

abbrev pub product_test_of : List Sort → Width → FlowForm → ℕ → FlowForm → ℕ → List CellTest
product_test_of sorts width form times product number =
    product_test sorts width (form_tree form) times (form_tree product) number

abbrev pub tested_sum_of : List Sort → Width → FlowForm → ℕ → FlowForm → FlowForm → List CellTest
tested_sum_of sorts width form times product rest =
    tested_sum sorts width (form_tree form) times (form_tree product) (form_tree rest)

-- ---- what conditions say of a comparison

abbrev pub value_by_cond : FlowCond → Bool → FlowComparison → Option Bool
value_by_cond cond holds comparison = value_known (facts_of (cond_tree cond) holds) (comparison_tree comparison)

abbrev pub value_by_conds : List FlowCond → FlowComparison → Option Bool
value_by_conds conds comparison = value_known (facts_of_all (map cond_tree conds)) (comparison_tree comparison)
