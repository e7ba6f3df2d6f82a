-- How far the problem of a question is made.
use Rattle.std.specs.Prelude.{◌≡◌, ◌≤◌, ◌-◌, ℕ, Bool, List, [], length, map}
use Rattle.kat_model.specs.Trees.{Term, kat_tree}
use Rattle.kat_model.specs.declared.limits.TheConstants.{MAX_TESTS, MAX_ACTIONS, MAX_HYPS}
use Rattle.flow_model.specs.Polish.{graph_of}
use Rattle.flow_forms.specs.Comparisons.{comparison_tree}
use Rattle.flow_places.specs.Places.{places}
use Rattle.flow_problem.specs.Edges.{Edge, way_edges}
use Rattle.flow_problem.specs.EdgeTerms.{graph_term}
use Rattle.flow_problem.specs.FlowFacts.{flow_hypotheses}
use Rattle.flow_problem.specs.FlowProblems.{first_tests, edges_before, edges_after, flow_actions, flow_tests, flow_parts}
use Rattle.flow_problem.specs.PlacedProblems.{graph_marks}
use Rattle.flow_places.specs.Rows.{rows_fit}
use Rattle.flow_edges.specs.EdgeViews.{flow_action}
use Rattle.flow_edges.specs.GraphRows.{row_edges, edge_rows}
use Rattle.flow_abstraction.specs.HypothesisViews.{flow_rule}
use Rattle.flow_abstraction.specs.declared.edges.Question.{Question}
use Rattle.flow_abstraction.specs.declared.edges.PairEdges.{PairEdges}
use Rattle.flow_abstraction.specs.declared.hypotheses.Reasons.{Reasons}
use Rattle.flow_abstraction.specs.declared.parts.Tables.{Tables}
use Rattle.flow_abstraction.specs.declared.placed.PlacedEdges.{PlacedEdges}
use Rattle.flow_abstraction.specs.declared.parts.Sides.{Sides}
use Rattle.flow_abstraction.specs.PosedQuestion.{PosedQuestion, posed, question_of, marks_of, HasManySplits, HasLargeTerm}
use Rattle.flow_abstraction.specs.Working.Placed.{HasEdges, IsSound}

abbrev pub posed_by : Question → PosedQuestion
posed_by q = posed q.sorts.now q.before.now q.after.now q.rounds q.splits

-- the ways of both graphs from a place, as edges
abbrev pub ways_before : PosedQuestion → ℕ → List Edge
ways_before a = way_edges (graph_of a.before) a.sorts (graph_marks (graph_of a.before))

abbrev pub ways_after : PosedQuestion → ℕ → List Edge
ways_after a = way_edges (graph_of a.after) a.sorts (graph_marks (graph_of a.after))

-- no limit of ways, forms, splits or first tests is passed
pub record KeepsLimits (a : PosedQuestion) : Type 0 where
  pub before_sound : IsSound a.sorts a.before
  pub after_sound : IsSound a.sorts a.after
  pub before_short : HasManySplits a.splits (graph_of a.before) (edges_before (question_of a) (marks_of a)) → ⊥
  pub after_short : HasManySplits a.splits (graph_of a.after) (edges_after (question_of a) (marks_of a)) → ⊥
  pub tests : length (first_tests (question_of a) (marks_of a)) ≤ MAX_TESTS

-- the first tests of a question, and the edges of both graphs
pub record HasPairEdges (a : PosedQuestion) (p : PairEdges) : Type 0 where
  pub tests : map comparison_tree p.tests.items ≡ first_tests (question_of a) (marks_of a)
  pub before : HasEdges (graph_of a.before) (edges_before (question_of a) (marks_of a)) p.before
  pub after : HasEdges (graph_of a.after) (edges_after (question_of a) (marks_of a)) p.after
  pub limits : KeepsLimits a

-- all tests and actions of a question
pub record HasTables (a : PosedQuestion) (t : Tables) : Type 0 where
  pub tests : map comparison_tree t.tests.items ≡ flow_tests (question_of a) (marks_of a)
  pub actions : map flow_action t.actions.items ≡ flow_actions (question_of a) (marks_of a)
  pub few : length (flow_actions (question_of a) (marks_of a)) ≤ MAX_ACTIONS

-- the hypotheses of a question, and their rules
pub record HasReasons (a : PosedQuestion) (r : Reasons) : Type 0 where
  pub rules : map flow_rule r.rules.items ≡ map (λ h. h.rule) (flow_hypotheses a.sorts (flow_tests (question_of a) (marks_of a)) (flow_actions (question_of a) (marks_of a)))
  pub terms : map kat_tree r.terms.items ≡ (flow_parts (question_of a) (marks_of a)).hyps
  pub few : length (flow_parts (question_of a) (marks_of a)).hyps ≤ MAX_HYPS

-- the term of the edges from places, and whether it is within the limit
abbrev pub IsSide : Tables → PlacedEdges → Term → Type 0
IsSide t p e =
    (from : ℕ → List Edge) → (p.places.items ≡ [] → from 0 ≡ []) → map row_edges p.edges.items ≡ map from p.places.items →
    e ≡ graph_term (map comparison_tree t.tests.items) (map flow_action t.actions.items) p.places.items from

abbrev pub side_fits : Tables → PlacedEdges → Bool
side_fits t p =
    rows_fit (length p.edges.items - 1) (edge_rows (map comparison_tree t.tests.items) (map flow_action t.actions.items) p.places.items (map row_edges p.edges.items))

-- the terms of both graphs
pub record HasSides (a : PosedQuestion) (s : Sides) : Type 0 where
  pub left : kat_tree s.left ≡ (flow_parts (question_of a) (marks_of a)).left
  pub right : kat_tree s.right ≡ (flow_parts (question_of a) (marks_of a)).right
  pub before_fits : HasLargeTerm (question_of a) (places (graph_of a.before)) (edges_before (question_of a) (marks_of a)) → ⊥
  pub after_fits : HasLargeTerm (question_of a) (places (graph_of a.after)) (edges_after (question_of a) (marks_of a)) → ⊥
