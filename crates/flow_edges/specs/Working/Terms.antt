-- The terms of edges between places, over tests and actions of the program.
use Rattle.std.specs.Prelude.{ℕ, List, [], ◌∷◌, map, filter, Option, Vec}
use Rattle.std.specs.declared.alloc.Global.{Global}
use Rattle.kat_model.specs.Trees.{Term, test}
use Rattle.flow_forms.specs.declared.comparison.FlowComparison.{FlowComparison}
use Rattle.flow_forms.specs.Comparisons.{comparison_tree, is_same_comparison}
use Rattle.flow_ways.specs.declared.condition.FlowCond.{FlowCond}
use Rattle.flow_ways.specs.CondTrees.{cond_tree}
use Rattle.flow_problem.specs.EdgeTerms.{row_number, edge_term, test_of_cond, action_terms}
use Rattle.flow_problem.specs.Edges.{is_same_action}
use Rattle.flow_places.specs.Rows.{TermRow}
use Rattle.flow_edges.specs.declared.action.FlowAction.{FlowAction}
use Rattle.flow_edges.specs.declared.edge.FlowEdge.{FlowEdge}
use Rattle.flow_edges.specs.EdgeViews.{flow_action, flow_edge}
use Rattle.flow_edges.specs.GraphRows.{row_edges, leads_to, edges_term, edge_row, edge_rows}

-- the term of an edge, if it leads to a block, or to the end
abbrev pub terms_to : Option ℕ → List FlowComparison → List FlowAction → FlowEdge → List Term
terms_to target tests actions edge =
    map (edge_term (map comparison_tree tests) (map flow_action actions)) (filter (λ e. leads_to target e.target) (flow_edge edge ∷ []))

abbrev pub sum_to : Option ℕ → List FlowComparison → List FlowAction → List FlowEdge → Term
sum_to target tests actions edges = edges_term (map comparison_tree tests) (map flow_action actions) (map flow_edge edges) target

abbrev pub row_from : List FlowComparison → List FlowAction → List ℕ → List FlowEdge → TermRow
row_from tests actions places edges = edge_row (map comparison_tree tests) (map flow_action actions) places (map flow_edge edges)

abbrev pub rows_from : List FlowComparison → List FlowAction → List ℕ → List (Vec FlowEdge Global) → List TermRow
rows_from tests actions places rows = edge_rows (map comparison_tree tests) (map flow_action actions) places (map row_edges rows)

abbrev pub tests_of_conds : List FlowComparison → List FlowCond → List Term
tests_of_conds tests conds = map (λ b. test (test_of_cond (map comparison_tree tests) b)) (map cond_tree conds)

abbrev pub steps_from : List FlowComparison → List FlowAction → List ℕ → List FlowEdge → List Term
steps_from tests actions places edges = (row_from tests actions places edges).steps

-- the numbers of a comparison and of an action in their tables
abbrev pub number_of_test : List FlowComparison → FlowComparison → ℕ
number_of_test tests comparison = row_number is_same_comparison (map comparison_tree tests) (comparison_tree comparison)

abbrev pub number_of_action : List FlowAction → FlowAction → ℕ
number_of_action actions action = row_number is_same_action (map flow_action actions) (flow_action action)

abbrev pub terms_of_action : List FlowAction → FlowAction → List Term
terms_of_action actions action = action_terms (map flow_action actions) (flow_action action)
