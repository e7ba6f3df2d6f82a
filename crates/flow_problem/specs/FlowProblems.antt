-- The problem of two graphs.
use Rattle.std.specs.Prelude.{◌≡◌, ℕ, Bool, true, List, [], ◌++◌, length, map, flat_map, nat_lt, Result, Ok, Err, if◌then◌else◌}
use Rattle.kat_model.specs.Members.{Has}
use Rattle.kat_model.specs.declared.limits.TheConstants.{MAX_TESTS, MAX_ACTIONS, MAX_TERM_NODES, MAX_HYPS}
use Rattle.kat_model.specs.Problems.{ProblemParts, problem_size}
use Rattle.flow_model.specs.declared.sort.Sort.{Sort}
use Rattle.flow_model.specs.Sorts.{State}
use Rattle.flow_model.specs.Graphs.{Graph, Pair}
use Rattle.flow_model.specs.Interpretations.{Interpretation}
use Rattle.flow_forms.specs.Comparisons.{FlowComparisonTree, is_same_comparison}
use Rattle.flow_ways.specs.Sorted.{IsSortedGraph}
use Rattle.flow_ways.specs.Stops.{stop_from, IsSettled}
use Rattle.flow_ways.specs.Liveness.{IsLive}
use Rattle.kat_model.specs.UniqueRows.{with_all_new}
use Rattle.flow_problem.specs.Edges.{FlowActionTree, Edge, Marks, is_same_action, way_edges}
use Rattle.flow_problem.specs.Points.{FlowProblem}
use Rattle.flow_problem.specs.EdgeTerms.{edge_comparisons, edge_actions, place_block, graph_term, all_edges}
use Rattle.flow_problem.specs.FlowFacts.{flow_hypotheses}
use Rattle.flow_problem.specs.FlowRounds.{flow_rounds}
use Rattle.flow_problem.specs.Splits.{cell_tests, split_edges}

-- what a flow file asks: whether two graphs agree, with a number of rounds, and with or without splits
pub record FlowQuestion : Type 0 where
  pub pair : Pair
  pub rounds : ℕ
  pub splits : Bool

-- the places and live variables of both graphs
pub record PairMarks : Type 0 where
  pub before : Marks
  pub after : Marks

-- why a question has no problem
pub data NoProblem : Type 0 where
  too_many_tests : NoProblem
  too_many_actions : NoProblem
  problem_too_large : NoProblem

-- the comparisons of both graphs, each once, in the order in which they are met
abbrev pub first_tests : FlowQuestion → PairMarks → List FlowComparisonTree
first_tests q marks =
    with_all_new is_same_comparison []
    (flat_map edge_comparisons
    (all_edges marks.before.places (way_edges q.pair.before q.pair.sorts marks.before)
    ++ all_edges marks.after.places (way_edges q.pair.after q.pair.sorts marks.after)))

-- the edges of a graph, split by tests where the question says so
abbrev pub edges_with : Bool → List FlowComparisonTree → List Sort → List Edge → List Edge
edges_with splits tests sorts edges = if splits then split_edges sorts (cell_tests sorts tests) edges else edges

abbrev pub edges_before : FlowQuestion → PairMarks → ℕ → List Edge
edges_before q marks k = edges_with q.splits (first_tests q marks) q.pair.sorts (way_edges q.pair.before q.pair.sorts marks.before k)

abbrev pub edges_after : FlowQuestion → PairMarks → ℕ → List Edge
edges_after q marks k = edges_with q.splits (first_tests q marks) q.pair.sorts (way_edges q.pair.after q.pair.sorts marks.after k)

abbrev pub flow_actions : FlowQuestion → PairMarks → List FlowActionTree
flow_actions q marks =
    with_all_new is_same_action []
    (flat_map edge_actions
    (all_edges marks.before.places (edges_before q marks)
    ++ all_edges marks.after.places (edges_after q marks)))

abbrev pub flow_tests : FlowQuestion → PairMarks → List FlowComparisonTree
flow_tests q marks = flow_rounds q.rounds q.pair.sorts (flow_actions q marks) (first_tests q marks)

abbrev pub flow_parts : FlowQuestion → PairMarks → ProblemParts
flow_parts q marks = record {
  tests = length (flow_tests q marks);
  actions = length (flow_actions q marks);
  hyps = map (λ h. h.term) (flow_hypotheses q.pair.sorts (flow_tests q marks) (flow_actions q marks));
  left = graph_term (flow_tests q marks) (flow_actions q marks) marks.before.places (edges_before q marks);
  right = graph_term (flow_tests q marks) (flow_actions q marks) marks.after.places (edges_after q marks);
}

abbrev pub whole_problem : FlowQuestion → PairMarks → FlowProblem
whole_problem q marks = record { problem = flow_parts q marks; tests = flow_tests q marks; actions = flow_actions q marks }

-- the problem with these places and live variables, or why there is none
abbrev pub problem_by : FlowQuestion → PairMarks → Result FlowProblem NoProblem
problem_by q marks =
    if nat_lt MAX_TESTS (length (first_tests q marks)) then Err too_many_tests
    else if nat_lt MAX_ACTIONS (length (flow_actions q marks)) then Err too_many_actions
    else if nat_lt MAX_HYPS (length (flow_parts q marks).hyps) then Err problem_too_large
    else if nat_lt MAX_TERM_NODES (problem_size (flow_parts q marks)) then Err problem_too_large
    else Ok (whole_problem q marks)

-- Marks that cut each loop of a graph and have each live variable: the entry is the first place, and a run from a place
-- that reaches a place or returns does so within the number of blocks.
pub record MarksGraph (g : Graph) (marks : Marks) : Type 0 where
  pub entry : marks.is_place 0 ≡ true
  pub first : place_block marks.places 0 ≡ 0
  pub listed : (k : ℕ) → marks.is_place k ≡ true → Has marks.places k
  pub settles : (I : Interpretation) (k n : ℕ) (s : State) → marks.is_place k ≡ true → IsSettled (stop_from I g marks.is_place n k s) →
      stop_from I g marks.is_place (length g) k s ≡ stop_from I g marks.is_place n k s
  pub live : (k x : ℕ) → IsLive g x k → marks.live k x ≡ true

-- each expression of the graphs has its sort, and the marks are those of the graphs
pub record HasMarks (pair : Pair) (marks : PairMarks) : Type 0 where
  pub before_sorted : IsSortedGraph pair.sorts pair.before
  pub after_sorted : IsSortedGraph pair.sorts pair.after
  pub before_marked : MarksGraph pair.before marks.before
  pub after_marked : MarksGraph pair.after marks.after
