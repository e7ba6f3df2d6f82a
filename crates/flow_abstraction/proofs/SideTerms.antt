-- The term of a graph from the rows of the program.
use Rattle.std.proofs.Common.{◌≡◌, ℕ, ◌-◌, ◌<◌, ◌≤◌, inl, inr, true, false, List, [], length, map, refl, sym, ◌∙◌, ap, subst}
use mathlib.Core.Path.{ap₂}
use Rattle.std.proofs.lemmas.Bool.{both_ways}
use Rattle.std.proofs.lemmas.List.{length-map}
use Rattle.kat_model.specs.Trees.{Term, kat_tree}
use Rattle.kat_model.specs.declared.limits.TheConstants.{MAX_HYPS}
use Rattle.flow_model.specs.Graphs.{Graph}
use Rattle.flow_model.specs.Polish.{graph_of}
use Rattle.flow_forms.specs.declared.comparison.FlowComparison.{FlowComparison}
use Rattle.flow_forms.specs.Comparisons.{FlowComparisonTree, comparison_tree}
use Rattle.flow_places.specs.Places.{places}
use Rattle.flow_problem.specs.Edges.{FlowActionTree, Edge}
use Rattle.flow_problem.specs.EdgeTerms.{graph_term}
use Rattle.flow_problem.specs.FlowFacts.{FlowHypothesis as Hypothesis, flow_hypotheses}
use Rattle.flow_problem.specs.FlowProblems.{first_tests, edges_before, edges_after, flow_actions, flow_tests, flow_parts}
use Rattle.flow_edges.specs.declared.action.FlowAction.{FlowAction}
use Rattle.flow_edges.specs.EdgeViews.{flow_action}
use Rattle.flow_places.specs.Rows.{rows_fit}
use Rattle.flow_places.specs.declared.term_fault.TermFault.{TermFault}
use Rattle.flow_places.specs.declared.term_fault.TermFault.TheVariants as term
use Rattle.flow_edges.specs.GraphRows.{row_edges, edge_rows}
use Rattle.flow_abstraction.specs.declared.hypothesis.FlowHypothesis.{FlowHypothesis}
use Rattle.flow_abstraction.specs.HypothesisViews.{flow_rule, flow_hypothesis}
use Rattle.flow_abstraction.specs.declared.hypothesis_fault.HypothesisFault.{HypothesisFault}
use Rattle.flow_abstraction.specs.declared.hypothesis_fault.HypothesisFault.TheVariants as hypothesis
use Rattle.flow_abstraction.specs.declared.placed.PlacedEdges.{PlacedEdges}
use Rattle.flow_abstraction.specs.declared.parts.Tables.{Tables}
use Rattle.flow_abstraction.specs.declared.hypotheses.Reasons.{Reasons}
use Rattle.flow_abstraction.specs.PosedQuestion.{PosedQuestion, question_of, marks_of, HasFault, HasLargeTerm}
use Rattle.flow_abstraction.specs.Working.Placed.{of_term_fault, of_hypothesis_fault, HasEdges}
use Rattle.flow_abstraction.specs.Working.Stages.{KeepsLimits, HasTables, HasReasons, IsSide, side_fits}
use Rattle.flow_abstraction.proofs.WholeRanges.{no_edges_there}

rows_fit_as : (tests : List FlowComparisonTree) (actions : List FlowActionTree) (g : Graph) (from : ℕ → List Edge) (p : PlacedEdges) → HasEdges g from p →
    rows_fit (length p.edges.items - 1) (edge_rows tests actions p.places.items (map row_edges p.edges.items)) ≡ rows_fit (length (places g) - 1) (edge_rows tests actions (places g) (map from (places g)))
rows_fit_as tests actions g from p has =
    let count : length p.edges.items ≡ length (places g) = sym (length-map p.edges.items row_edges) ∙ ap length has.1 ∙ length-map (places g) from in
    ap (λ n. rows_fit (n - 1) (edge_rows tests actions p.places.items (map row_edges p.edges.items))) count
    ∙ ap₂ (λ ks ess. rows_fit (length (places g) - 1) (edge_rows tests actions ks ess)) has.0 has.1

module _ (a : PosedQuestion) (t : Tables) (tables : HasTables a t) where
  abbrev tests : List FlowComparisonTree
  tests = flow_tests (question_of a) (marks_of a)

  abbrev actions : List FlowActionTree
  actions = flow_actions (question_of a) (marks_of a)

  -- ---- hypotheses

  -- lists of the program that are the tests and actions
  module _ (ts : List FlowComparison) (acts : List FlowAction) (all_tests : ts ≡ t.tests.items) (all_actions : acts ≡ t.actions.items) where
    own_hypotheses : flow_hypotheses a.sorts (map comparison_tree ts) (map flow_action acts) ≡ flow_hypotheses a.sorts tests actions
    own_hypotheses =
        ap₂ (λ (cs : List FlowComparisonTree) (ds : List FlowActionTree). flow_hypotheses a.sorts cs ds)
        (ap (map comparison_tree) all_tests ∙ tables.tests)
        (ap (map flow_action) all_actions ∙ tables.actions)

    pub hypotheses_refused : (e : HypothesisFault) → (e ≡ hypothesis.TooMany → MAX_HYPS < length (flow_hypotheses a.sorts (map comparison_tree ts) (map flow_action acts))) → HasFault a (of_hypothesis_fault e)
    hypotheses_refused hypothesis.NoMemory h = inl refl
    hypotheses_refused hypothesis.TooMany h =
        inr (inl (inl
        (subst (λ n. MAX_HYPS < n) (ap length own_hypotheses ∙ sym (length-map (flow_hypotheses a.sorts tests actions) (λ (h : Hypothesis). h.term))) (h refl))))

    pub reasons_are : (hs : List FlowHypothesis) (r : Reasons) → map flow_hypothesis hs ≡ flow_hypotheses a.sorts (map comparison_tree ts) (map flow_action acts) → length hs ≤ MAX_HYPS →
        map flow_rule r.rules.items ≡ map (λ (h : Hypothesis). h.rule) (map flow_hypothesis hs) → map kat_tree r.terms.items ≡ map (λ (h : Hypothesis). h.term) (map flow_hypothesis hs) → HasReasons a r
    reasons_are hs r made few rules terms =
        let all : map flow_hypothesis hs ≡ flow_hypotheses a.sorts tests actions = made ∙ own_hypotheses in
        record {
          rules = rules ∙ ap (map (λ (h : Hypothesis). h.rule)) all;
          terms = terms ∙ ap (map (λ (h : Hypothesis). h.term)) all;
          few =
              subst (λ n. n ≤ MAX_HYPS)
              (sym (length-map hs flow_hypothesis) ∙ ap length all ∙ sym (length-map (flow_hypotheses a.sorts tests actions) (λ (h : Hypothesis). h.term))) few;
        }

  -- ---- terms

  module _ (g : Graph) (from : ℕ → List Edge) (p : PlacedEdges) (has : HasEdges g from p) where
    same_fit : side_fits t p ≡ rows_fit (length (places g) - 1) (edge_rows tests actions (places g) (map from (places g)))
    same_fit =
        ap₂ (λ (ts : List FlowComparisonTree) (acts : List FlowActionTree). rows_fit (length p.edges.items - 1) (edge_rows ts acts p.places.items (map row_edges p.edges.items))) tables.tests tables.actions
        ∙ rows_fit_as tests actions g from p has

    pub side_large : side_fits t p ≡ false → HasLargeTerm (question_of a) (places g) from
    side_large h = sym same_fit ∙ h

    pub side_small : side_fits t p ≡ true → HasLargeTerm (question_of a) (places g) from → ⊥
    side_small h large = both_ways (side_fits t p) (same_fit ∙ large) h

    pub side_is : (e : Term) → IsSide t p e → (places g ≡ [] → from 0 ≡ []) → e ≡ graph_term tests actions (places g) from
    side_is e made none =
        made from (λ h. none (sym has.0 ∙ h)) (has.1 ∙ ap (map from) (sym has.0))
        ∙ ap₂ (λ (ts : List FlowComparisonTree) (acts : List FlowActionTree). graph_term ts acts p.places.items from) tables.tests tables.actions
        ∙ ap (λ (ks : List ℕ). graph_term tests actions ks from) has.0

  -- ---- the terms of both graphs

  module _ (limits : KeepsLimits a) (p : PlacedEdges) where
    pub left_is : HasEdges (graph_of a.before) (edges_before (question_of a) (marks_of a)) p → (e : Term) → IsSide t p e → e ≡ (flow_parts (question_of a) (marks_of a)).left
    left_is has e made =
        side_is (graph_of a.before) (edges_before (question_of a) (marks_of a)) p has e made
        (no_edges_there a.splits (first_tests (question_of a) (marks_of a)) a.sorts (graph_of a.before) limits.before_sound.cut)

    pub right_is : HasEdges (graph_of a.after) (edges_after (question_of a) (marks_of a)) p → (e : Term) → IsSide t p e → e ≡ (flow_parts (question_of a) (marks_of a)).right
    right_is has e made =
        side_is (graph_of a.after) (edges_after (question_of a) (marks_of a)) p has e made
        (no_edges_there a.splits (first_tests (question_of a) (marks_of a)) a.sorts (graph_of a.after) limits.after_sound.cut)

  module _ (p : PlacedEdges) (e : TermFault) (large : e ≡ term.TooLarge → side_fits t p ≡ false) where
    pub left_refused : HasEdges (graph_of a.before) (edges_before (question_of a) (marks_of a)) p → HasFault a (of_term_fault e)
    left_refused has = by_fault e large
      where
        by_fault : (f : TermFault) → (f ≡ term.TooLarge → side_fits t p ≡ false) → HasFault a (of_term_fault f)
        by_fault term.NoMemory l = inl refl
        by_fault term.TooLarge l = inr (inr (inl (side_large (graph_of a.before) (edges_before (question_of a) (marks_of a)) p has (l refl))))

    pub right_refused : HasEdges (graph_of a.after) (edges_after (question_of a) (marks_of a)) p → HasFault a (of_term_fault e)
    right_refused has = by_fault e large
      where
        by_fault : (f : TermFault) → (f ≡ term.TooLarge → side_fits t p ≡ false) → HasFault a (of_term_fault f)
        by_fault term.NoMemory l = inl refl
        by_fault term.TooLarge l = inr (inr (inr (side_large (graph_of a.after) (edges_after (question_of a) (marks_of a)) p has (l refl))))
