-- Rounds: what assignments make of tests gives further tests.
use Rattle.std.specs.Prelude.{ℕ, zero, suc, ◌&&◌, not, nat_lt, List, [], ◌∷◌, ◌++◌, length, flat_map, Option, Some, None, if◌then◌else◌}
use Rattle.std.specs.List.{list_any}
use Rattle.kat_model.specs.declared.limits.TheConstants.{MAX_TESTS}
use Rattle.flow_model.specs.declared.sort.Sort.{Sort}
use Rattle.flow_forms.specs.Comparisons.{FlowComparisonTree, FlowLiteralTree, decided, holding, failing, is_same_comparison}
use Rattle.flow_problem.specs.Edges.{FlowActionTree, assigned, given}
use Rattle.flow_problem.specs.Substitutions.{literal_after}

abbrev pub literal_comparisons : FlowLiteralTree → List FlowComparisonTree
literal_comparisons (decided b) = []
literal_comparisons (holding c) = c ∷ []
literal_comparisons (failing c) = c ∷ []

abbrev pub comparisons_if_any : Option FlowLiteralTree → List FlowComparisonTree
comparisons_if_any None = []
comparisons_if_any (Some l) = literal_comparisons l

-- the comparisons that hold before an action exactly when those of a list, or their opposites, hold after it
abbrev pub comparisons_before : List Sort → List FlowComparisonTree → FlowActionTree → List FlowComparisonTree
comparisons_before sorts table (assigned os) = flat_map (λ c. comparisons_if_any (literal_after sorts os c)) table
comparisons_before sorts table (given results) = []

-- the table with a comparison, unless it is there or the table is full
abbrev pub with_comparison : List FlowComparisonTree → FlowComparisonTree → List FlowComparisonTree
with_comparison table c =
    if not (list_any (is_same_comparison c) table) && nat_lt (length table) MAX_TESTS then table ++ c ∷ [] else table

abbrev pub with_comparisons : List FlowComparisonTree → List FlowComparisonTree → List FlowComparisonTree
with_comparisons table [] = table
with_comparisons table (c ∷ cs) = with_comparisons (with_comparison table c) cs

-- one round takes the comparisons that were in the table when it began, for each action in order
abbrev pub flow_round : List Sort → List FlowActionTree → List FlowComparisonTree → List FlowComparisonTree
flow_round sorts actions table = with_comparisons table (flat_map (comparisons_before sorts table) actions)

abbrev pub flow_rounds : ℕ → List Sort → List FlowActionTree → List FlowComparisonTree → List FlowComparisonTree
flow_rounds zero sorts actions table = table
flow_rounds (suc n) sorts actions table = flow_rounds n sorts actions (flow_round sorts actions table)
