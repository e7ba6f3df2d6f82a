-- The edges, terms and hypotheses of a question of the program.
use Rattle.std.specs.Prelude.{◌≡◌, ◌<◌, ℕ, Bool, false, List, [], ◌∷◌, length, map, filter, slice_index_or, Result, IfErr, if◌then◌else◌, Vec}
use Rattle.std.specs.List.{range_with_len}
use Rattle.std.specs.declared.alloc.Global.{Global}
use Rattle.kat_model.specs.declared.limits.TheConstants.{MAX_HYPS}
use Rattle.flow_model.specs.declared.sort.Sort.{Sort}
use Rattle.flow_model.specs.declared.graph.Block.{Block}
use Rattle.flow_model.specs.Polish.{graph_of}
use Rattle.flow_forms.specs.declared.comparison.FlowComparison.{FlowComparison}
use Rattle.flow_forms.specs.Comparisons.{FlowComparisonTree, comparison_tree}
use Rattle.flow_ways.specs.declared.fault.WayFault.{WayFault}
use Rattle.flow_places.specs.declared.term_fault.TermFault.{TermFault}
use Rattle.flow_places.specs.declared.term_fault.TermFault.TheVariants as term
use Rattle.flow_edges.specs.declared.edge.FlowEdge.{FlowEdge}
use Rattle.flow_edges.specs.declared.splits.split_fault.SplitFault.{SplitFault}
use Rattle.flow_edges.specs.declared.splits.split_fault.SplitFault.TheVariants as split
use Rattle.flow_edges.specs.EdgeViews.{flow_action}
use Rattle.flow_edges.specs.GraphRows.{row_edges}
use Rattle.flow_problem.specs.Edges.{Edge, way_edges}
use Rattle.flow_problem.specs.Splits.{cell_tests, split_edges}
use Rattle.flow_problem.specs.FlowFacts.{FlowHypothesis, flow_hypotheses}
use Rattle.flow_problem.specs.FlowProblems.{first_tests, edges_with, edges_before, edges_after}
use Rattle.flow_problem.specs.PlacedProblems.{graph_marks, IsFlowProblem}
use Rattle.flow_abstraction.specs.declared.edges.Question.{Question}
use Rattle.flow_abstraction.specs.declared.hypothesis_fault.HypothesisFault.{HypothesisFault}
use Rattle.flow_abstraction.specs.declared.hypothesis_fault.HypothesisFault.TheVariants as hypothesis
use Rattle.flow_abstraction.specs.declared.placed.Marked.{Marked}
use Rattle.flow_abstraction.specs.declared.placed.PlacedEdges.{PlacedEdges}
use Rattle.flow_abstraction.specs.declared.question.FlowAbstract.{FlowAbstract}
use Rattle.flow_abstraction.specs.Abstracts.{flow_problem_of}
use Rattle.flow_abstraction.specs.HypothesisViews.{flow_rule}
use Rattle.flow_abstraction.specs.PosedQuestion.{question_of, marks_of}
use Rattle.flow_abstraction.specs.Working.Placed.{table_edges, AreFew, HasWayFault, HasEdges}
use Rattle.flow_abstraction.specs.Working.Splits.{HasLongRow}
use Rattle.flow_abstraction.specs.Working.Stages.{posed_by, ways_before, ways_after}

abbrev pub first_tests_of : Question → List FlowComparisonTree
first_tests_of q = first_tests (question_of (posed_by q)) (marks_of (posed_by q))

-- the edges of both graphs as ways, and split where the question says so
abbrev pub HasWaysBefore : Question → PlacedEdges → Type 0
HasWaysBefore q edges = HasEdges (graph_of q.before.now) (ways_before (posed_by q)) edges

abbrev pub HasWaysAfter : Question → PlacedEdges → Type 0
HasWaysAfter q edges = HasEdges (graph_of q.after.now) (ways_after (posed_by q)) edges

abbrev pub HasEdgesBefore : Question → PlacedEdges → Type 0
HasEdgesBefore q edges = HasEdges (graph_of q.before.now) (edges_before (question_of (posed_by q)) (marks_of (posed_by q))) edges

abbrev pub HasEdgesAfter : Question → PlacedEdges → Type 0
HasEdgesAfter q edges = HasEdges (graph_of q.after.now) (edges_after (question_of (posed_by q)) (marks_of (posed_by q))) edges

-- the ways of a graph as the edges from its places
abbrev pub HasWayEdges : List Sort → List Block → PlacedEdges → Type 0
HasWayEdges sorts blocks edges = HasEdges (graph_of blocks) (way_edges (graph_of blocks) sorts (graph_marks (graph_of blocks))) edges

abbrev pub IsProblemOf : Question → FlowAbstract → Type 0
IsProblemOf q a = IsFlowProblem (question_of (posed_by q)) (flow_problem_of a)

-- the rules are those of the hypotheses of the tests and actions
abbrev pub HasOwnRules : List Sort → FlowAbstract → Type 0
HasOwnRules sorts a =
    map flow_rule a.rules.items ≡ map (λ h. h.rule) (flow_hypotheses sorts (map comparison_tree a.tests.items) (map flow_action a.actions.items))

-- ---- the edges from the places of a graph

-- the block, if it is a place, and all blocks that are places
abbrev pub place_if_any : List Bool → ℕ → List ℕ
place_if_any places block = if slice_index_or places block false then block ∷ [] else []

abbrev pub places_of : List Bool → List ℕ
places_of places = filter (λ k. slice_index_or places k false) (range_with_len 0 (length places))

-- the edges from a block and from each of some blocks
abbrev pub edges_at : Marked → ℕ → List Edge
edges_at g = table_edges g.sorts.now g.blocks.now g.places.now g.live.now

abbrev pub rows_at : Marked → List ℕ → List (List Edge)
rows_at g blocks = map (edges_at g) blocks

abbrev pub AreFewAt : Marked → ℕ → Type 0
AreFewAt g = AreFew g.sorts.now g.blocks.now g.places.now

abbrev pub HasFaultAt : Marked → List ℕ → WayFault → Type 0
HasFaultAt g = HasWayFault g.sorts.now g.blocks.now g.places.now

-- edges, split by tests
abbrev pub rows_if_split : Bool → List Sort → List FlowComparison → PlacedEdges → List (List Edge)
rows_if_split splits sorts tests p = map (edges_with splits (map comparison_tree tests) sorts) (map row_edges p.edges.items)

abbrev pub IsSplit : Bool → List Sort → List FlowComparison → PlacedEdges → PlacedEdges → Type 0
IsSplit splits sorts tests p made = map row_edges made.edges.items ≡ rows_if_split splits sorts tests p

abbrev pub rows_split : List Sort → List FlowComparison → Vec (Vec FlowEdge Global) Global → List (List Edge)
rows_split sorts tests rows = map (split_edges sorts (cell_tests sorts (map comparison_tree tests))) (map row_edges rows.items)

-- ---- when a call refuses

abbrev pub LongRowOnlyIf : {X : Type 0} → Result X SplitFault → List (List Edge) → Type 0
LongRowOnlyIf result rows = IfErr result (λ e. e ≡ split.TooManyPaths → HasLongRow rows)

abbrev pub TermOnlyIfNot : {X : Type 0} → Result X TermFault → Bool → Type 0
TermOnlyIfNot result fits = IfErr result (λ f. f ≡ term.TooLarge → fits ≡ false)

abbrev pub TooManyOnlyIf : {X : Type 0} → Result X HypothesisFault → List FlowHypothesis → Type 0
TooManyOnlyIf result facts = IfErr result (λ e. e ≡ hypothesis.TooMany → MAX_HYPS < length facts)
