-- What a call adds to the tests of a problem, and rounds over tests and actions of the program.
use Rattle.std.specs.Prelude.{◌≡◌, ℕ, List, flat_map, map, Option, option_map, Result, OnOk, Vec}
use Rattle.std.specs.declared.alloc.Global.{Global}
use Rattle.flow_model.specs.declared.sort.Sort.{Sort}
use Rattle.flow_forms.specs.declared.form.FlowForm.{FlowForm}
use Rattle.flow_forms.specs.declared.comparison.FlowComparison.{FlowComparison}
use Rattle.flow_forms.specs.declared.comparison.FlowLiteral.{FlowLiteral}
use Rattle.flow_forms.specs.Forms.{form_tree}
use Rattle.flow_forms.specs.Comparisons.{FlowComparisonTree, comparison_tree, literal_tree}
use Rattle.flow_ways.specs.ActionTrees.{set_tree}
use Rattle.flow_edges.specs.declared.action.FlowAction.{FlowAction}
use Rattle.flow_edges.specs.EdgeViews.{flow_action}
use Rattle.flow_problem.specs.Edges.{assigned}
use Rattle.flow_problem.specs.FlowRounds.{comparisons_if_any, comparisons_before, with_comparison, with_comparisons, flow_round, flow_rounds}
use Rattle.flow_abstraction.specs.LiteralsWith.{comparisons_with}
use Rattle.flow_abstraction.specs.Working.Substituted.{literal_where}

-- the table has what it had and each new comparison of a list, up to the limit
abbrev pub Adds : {E : Type 0} → Result (Unit {0}) E → Vec FlowComparison Global → Vec FlowComparison Global → List FlowComparisonTree → Type 0
Adds result old new more = OnOk result (map comparison_tree new.items ≡ with_comparisons (map comparison_tree old.items) more)

abbrev pub AddsOne : {E : Type 0} → Result (Unit {0}) E → Vec FlowComparison Global → Vec FlowComparison Global → FlowComparisonTree → Type 0
AddsOne result old new row = OnOk result (map comparison_tree new.items ≡ with_comparison (map comparison_tree old.items) row)

-- the comparisons before an assignment: of a condition, of one comparison after it, and of each of some
abbrev pub comparisons_in : Option FlowLiteral → List FlowComparisonTree
comparisons_in literal = comparisons_if_any (option_map literal_tree literal)

abbrev pub before_one : List Sort → List (Option FlowForm) → List FlowForm → FlowComparison → List FlowComparisonTree
before_one sorts sets forms comparison = comparisons_if_any (literal_where sorts sets forms comparison)

abbrev pub before_all : List Sort → List (Option FlowForm) → List FlowForm → List FlowComparison → List FlowComparisonTree
before_all sorts sets forms comparisons =
    comparisons_with sorts (map set_tree sets) (map form_tree forms) (map comparison_tree comparisons)

-- the same, by what the assignment sets, of an action and of each of some actions
abbrev pub before_sets : List Sort → List FlowComparison → List (Option FlowForm) → List FlowComparisonTree
before_sets sorts comparisons sets = comparisons_before sorts (map comparison_tree comparisons) (assigned (map set_tree sets))

abbrev pub before_action : List Sort → List FlowComparison → FlowAction → List FlowComparisonTree
before_action sorts comparisons action = comparisons_before sorts (map comparison_tree comparisons) (flow_action action)

abbrev pub before_actions : List Sort → List FlowComparison → List FlowAction → List FlowComparisonTree
before_actions sorts comparisons actions =
    flat_map (comparisons_before sorts (map comparison_tree comparisons)) (map flow_action actions)

-- a table after one round and after some
abbrev pub IsRound : List Sort → List FlowAction → Vec FlowComparison Global → Vec FlowComparison Global → Type 0
IsRound sorts actions old new =
    map comparison_tree new.items ≡ flow_round sorts (map flow_action actions) (map comparison_tree old.items)

abbrev pub AreRounds : ℕ → List Sort → List FlowAction → Vec FlowComparison Global → Vec FlowComparison Global → Type 0
AreRounds rounds sorts actions old new =
    map comparison_tree new.items ≡ flow_rounds rounds sorts (map flow_action actions) (map comparison_tree old.items)
