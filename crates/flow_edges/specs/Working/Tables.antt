-- Tables of the comparisons and actions of edges, each once, and what a call adds to one.
use Rattle.std.specs.Prelude.{◌≡◌, List, [], ◌++◌, map, Result, OnOk, Vec}
use Rattle.std.specs.List.{flat_map}
use Rattle.std.specs.declared.alloc.Global.{Global}
use Rattle.kat_model.specs.declared.limits.TheConstants.{MAX_TESTS, MAX_ACTIONS}
use Rattle.kat_model.specs.UniqueRows.{with_new_within, with_all_new_within}
use Rattle.flow_forms.specs.declared.comparison.FlowComparison.{FlowComparison}
use Rattle.flow_forms.specs.Comparisons.{FlowComparisonTree, comparison_tree, is_same_comparison}
use Rattle.flow_problem.specs.Edges.{FlowActionTree, Edge, is_same_action}
use Rattle.flow_ways.specs.declared.condition.FlowCond.{FlowCond}
use Rattle.flow_ways.specs.CondTrees.{cond_tree}
use Rattle.flow_problem.specs.EdgeTerms.{comparisons_of, edge_comparisons, edge_actions}
use Rattle.flow_edges.specs.declared.action.FlowAction.{FlowAction}
use Rattle.flow_edges.specs.declared.edge.FlowEdge.{FlowEdge}
use Rattle.flow_edges.specs.EdgeViews.{flow_action}
use Rattle.flow_edges.specs.GraphRows.{row_edges}

-- the edges of two graphs, which are given for each of their places
abbrev pub all_edges : List (Vec FlowEdge Global) → List (Vec FlowEdge Global) → List Edge
all_edges before after = flat_map row_edges before ++ flat_map row_edges after

-- the table has what it had and each new comparison of a list, up to one more than the limit
abbrev pub AddsComparisons : {E : Type 0} → Result (Unit {0}) E → Vec FlowComparison Global → Vec FlowComparison Global → List FlowComparisonTree → Type 0
AddsComparisons result old new more =
    OnOk result (map comparison_tree new.items ≡ with_all_new_within MAX_TESTS is_same_comparison (map comparison_tree old.items) more)

abbrev pub AddsComparison : {E : Type 0} → Result (Unit {0}) E → Vec FlowComparison Global → Vec FlowComparison Global → FlowComparisonTree → Type 0
AddsComparison result old new row =
    OnOk result (map comparison_tree new.items ≡ with_new_within MAX_TESTS is_same_comparison (map comparison_tree old.items) row)

abbrev pub AddsAction : {E : Type 0} → Result (Unit {0}) E → Vec FlowAction Global → Vec FlowAction Global → FlowActionTree → Type 0
AddsAction result old new row =
    OnOk result (map flow_action new.items ≡ with_new_within MAX_ACTIONS is_same_action (map flow_action old.items) row)

-- the comparisons of conditions, and those and the actions of two graphs, up to one more than the limit
abbrev pub comparisons_in : List FlowCond → List FlowComparisonTree
comparisons_in conds = flat_map comparisons_of (map cond_tree conds)

abbrev pub first_comparisons : List (Vec FlowEdge Global) → List (Vec FlowEdge Global) → List FlowComparisonTree
first_comparisons before after = with_all_new_within MAX_TESTS is_same_comparison [] (flat_map edge_comparisons (all_edges before after))

abbrev pub first_actions : List (Vec FlowEdge Global) → List (Vec FlowEdge Global) → List FlowActionTree
first_actions before after = with_all_new_within MAX_ACTIONS is_same_action [] (flat_map edge_actions (all_edges before after))
