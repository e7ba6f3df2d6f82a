-- The tests and actions of graphs as those of a problem, and the terms of graphs over them.
use Rattle.std.specs.Prelude.{ℕ, ◌-◌, Bool, true, false, nat_eq, List, [], ◌∷◌, ◌++◌, length, map, filter, flat_map, position, unwrap_or, slice_index_or, Option, Some, None, if◌then◌else◌}
use Rattle.kat_model.specs.Trees.{TestTree, bottom, top, prim, complement, meet, join, Term, test, act}
use Rattle.kat_model.specs.Balanced.{sum_of, product_of}
use Rattle.flow_forms.specs.Comparisons.{FlowComparisonTree, is_same_comparison}
use Rattle.flow_ways.specs.Conditions.{FlowCondTree, constantly, atom, negation, both, either}
use Rattle.flow_problem.specs.Edges.{FlowActionTree, Edge, is_idle, is_same_action}
use Rattle.flow_places.specs.Elimination.{eliminated}

-- the comparisons of a condition, from left to right
abbrev pub comparisons_of : FlowCondTree → List FlowComparisonTree
comparisons_of (constantly b) = []
comparisons_of (atom c) = c ∷ []
comparisons_of (negation b) = comparisons_of b
comparisons_of (both b c) = comparisons_of b ++ comparisons_of c
comparisons_of (either b c) = comparisons_of b ++ comparisons_of c

abbrev pub edge_comparisons : Edge → List FlowComparisonTree
edge_comparisons e = flat_map comparisons_of e.tests

-- the action of an edge, if it changes something
abbrev pub edge_actions : Edge → List FlowActionTree
edge_actions e = if is_idle e.action then [] else e.action ∷ []

-- the place of an element in a list
abbrev pub row_number : {X : Type 0} → (X → X → Bool) → List X → X → ℕ
row_number same xs x = unwrap_or (position (same x) xs) 0

-- the test of a condition
abbrev pub test_of_cond : List FlowComparisonTree → FlowCondTree → TestTree
test_of_cond tests (constantly b) = if b then top else bottom
test_of_cond tests (atom c) = prim (row_number is_same_comparison tests c)
test_of_cond tests (negation b) = complement (test_of_cond tests b)
test_of_cond tests (both b c) = meet (test_of_cond tests b) (test_of_cond tests c)
test_of_cond tests (either b c) = join (test_of_cond tests b) (test_of_cond tests c)

-- the term of an edge: its tests in order, then its action
abbrev pub action_terms : List FlowActionTree → FlowActionTree → List Term
action_terms actions action = if is_idle action then [] else act (row_number is_same_action actions action) ∷ []

abbrev pub edge_term : List FlowComparisonTree → List FlowActionTree → Edge → Term
edge_term tests actions e = product_of (map (λ b. test (test_of_cond tests b)) e.tests ++ action_terms actions e.action)

abbrev pub comes_to : ℕ → Option ℕ → Bool
comes_to j None = false
comes_to j (Some l) = nat_eq l j

abbrev pub is_end : Option ℕ → Bool
is_end None = true
is_end (Some l) = false

-- the edges from one place to another, and those to the end
abbrev pub step_term : List FlowComparisonTree → List FlowActionTree → (ℕ → List Edge) → ℕ → ℕ → Term
step_term tests actions edges i j = sum_of (map (edge_term tests actions) (filter (λ e. comes_to j e.target) (edges i)))

abbrev pub end_term : List FlowComparisonTree → List FlowActionTree → (ℕ → List Edge) → ℕ → Term
end_term tests actions edges i = sum_of (map (edge_term tests actions) (filter (λ e. is_end e.target) (edges i)))

-- the block of a place, by its number among the places
abbrev pub place_block : List ℕ → ℕ → ℕ
place_block places i = slice_index_or places i 0

-- the term of a graph with these places, of which the entry is the first
abbrev pub graph_term : List FlowComparisonTree → List FlowActionTree → List ℕ → (ℕ → List Edge) → Term
graph_term tests actions places edges =
    eliminated (length places - 1)
    (λ i j. step_term tests actions edges (place_block places i) (place_block places j))
    (λ i. end_term tests actions edges (place_block places i))

-- the edges of a graph, in the order of its places
abbrev pub all_edges : List ℕ → (ℕ → List Edge) → List Edge
all_edges places edges = flat_map edges places
