-- The stages of a problem: the edges of both graphs, and the faults of each step.
use Rattle.std.proofs.Common.{◌≡◌, ℕ, ◌<◌, inl, inr, true, List, [], ◌++◌, length, map, flat_map, refl, ◌∙◌, ap, subst, arith}
use mathlib.Core.Path.{ap₂}
use Rattle.std.specs.Prelude.{Vec}
use Rattle.std.specs.declared.alloc.Global.{Global}
use Rattle.kat_model.specs.declared.limits.TheConstants.{MAX_TESTS, MAX_ACTIONS}
use Rattle.flow_model.specs.Graphs.{Graph}
use Rattle.flow_model.specs.Polish.{graph_of}
use Rattle.flow_forms.specs.Comparisons.{FlowComparisonTree, is_same_comparison}
use Rattle.kat_model.specs.UniqueRows.{with_all_new}
use Rattle.flow_places.specs.Places.{places}
use Rattle.flow_problem.specs.Edges.{FlowActionTree, Edge, is_same_action, way_edges}
use Rattle.flow_problem.specs.EdgeTerms.{edge_comparisons, edge_actions, all_edges}
use Rattle.flow_problem.specs.FlowProblems.{first_tests, edges_with, edges_before, edges_after, flow_actions}
use Rattle.flow_problem.specs.PlacedProblems.{graph_marks}
use Rattle.flow_edges.specs.declared.edge.FlowEdge.{FlowEdge}
use Rattle.flow_edges.specs.GraphRows.{row_edges}
use Rattle.flow_edges.specs.declared.fault.TableFault.{TableFault}
use Rattle.flow_edges.specs.declared.fault.TableFault.TheVariants as table
use Rattle.flow_edges.proofs.GraphRows.{all_edges_are}
use Rattle.flow_edges.specs.declared.splits.split_fault.SplitFault.{SplitFault}
use Rattle.flow_edges.specs.declared.splits.split_fault.SplitFault.TheVariants as split
use Rattle.flow_abstraction.specs.declared.fault.FlowFault.{FlowFault}
use Rattle.flow_abstraction.specs.declared.fault.FlowFault.TheVariants.{NoMemory, UncutLoop, TooManyPaths, TooLarge, TooManyTests, TooManyActions, ProblemTooLarge}
use Rattle.flow_abstraction.specs.declared.placed.PlacedEdges.{PlacedEdges}
use Rattle.flow_abstraction.specs.PosedQuestion.{PosedQuestion, question_of, marks_of, HasManySplits, HasFault}
use Rattle.flow_abstraction.specs.Working.Placed.{of_table_fault, of_split_fault, HasEdges, HasGraphFault}
use Rattle.flow_abstraction.specs.Working.Splits.{AreShort, HasLongRow}
use Rattle.flow_abstraction.proofs.SplitRows.{long_place, short_places, map-places}

-- what is done to the edges of each place
pub edges_then : (g : Graph) (from : ℕ → List Edge) (f : List Edge → List Edge) (old new : PlacedEdges) → HasEdges g from old → new.places.items ≡ old.places.items →
    map row_edges new.edges.items ≡ map f (map row_edges old.edges.items) → HasEdges g (λ k. f (from k)) new
edges_then g from f old new h p e = (p ∙ h.0, e ∙ ap (map f) h.1 ∙ map-places f from (places g))

-- all edges of both graphs
pub edges_together : (g h : Graph) (from other : ℕ → List Edge) (p q : PlacedEdges) → HasEdges g from p → HasEdges h other q →
    flat_map row_edges p.edges.items ++ flat_map row_edges q.edges.items ≡ all_edges (places g) from ++ all_edges (places h) other
edges_together g h from other p q a b =
    ap₂ (λ es ds. es ++ ds) (all_edges_are row_edges p.edges.items (places g) from a.1) (all_edges_are row_edges q.edges.items (places h) other b.1)

module _ (a : PosedQuestion) where
  -- ---- faults of a graph

  pub before_refused : (e : FlowFault) → HasGraphFault a.sorts a.before e → HasFault a e
  before_refused NoMemory h = inl refl
  before_refused UncutLoop h = inr (inl h)
  before_refused TooManyPaths h = inr (inl (inl h))
  before_refused TooLarge h = inr (inl h)
  before_refused TooManyTests h = absurd h
  before_refused TooManyActions h = absurd h
  before_refused ProblemTooLarge h = absurd h

  pub after_refused : (e : FlowFault) → HasGraphFault a.sorts a.after e → HasFault a e
  after_refused NoMemory h = inl refl
  after_refused UncutLoop h = inr (inr h)
  after_refused TooManyPaths h = inr (inl (inr h))
  after_refused TooLarge h = inr (inr h)
  after_refused TooManyTests h = absurd h
  after_refused TooManyActions h = absurd h
  after_refused ProblemTooLarge h = absurd h

  -- ---- tests

  abbrev ways_before : ℕ → List Edge
  ways_before = way_edges (graph_of a.before) a.sorts (graph_marks (graph_of a.before))

  abbrev ways_after : ℕ → List Edge
  ways_after = way_edges (graph_of a.after) a.sorts (graph_marks (graph_of a.after))

  abbrev split_before : ℕ → List Edge
  split_before = edges_before (question_of a) (marks_of a)

  abbrev split_after : ℕ → List Edge
  split_after = edges_after (question_of a) (marks_of a)

  abbrev tests_of : List Edge → List FlowComparisonTree
  tests_of es = with_all_new is_same_comparison [] (flat_map edge_comparisons es)

  abbrev actions_of : List Edge → List FlowActionTree
  actions_of es = with_all_new is_same_action [] (flat_map edge_actions es)

  -- lists of the program that are the edges of both graphs, before and after splits
  module _ (p q : PlacedEdges) (ps qs : List (Vec FlowEdge Global)) (firsts : ps ≡ p.edges.items) (seconds : qs ≡ q.edges.items) where
    together : (from other : ℕ → List Edge) → HasEdges (graph_of a.before) from p → HasEdges (graph_of a.after) other q →
        flat_map row_edges ps ++ flat_map row_edges qs ≡ all_edges (places (graph_of a.before)) from ++ all_edges (places (graph_of a.after)) other
    together from other before after =
        ap₂ (λ (xs ys : List (Vec FlowEdge Global)). flat_map row_edges xs ++ flat_map row_edges ys) firsts seconds
        ∙ edges_together (graph_of a.before) (graph_of a.after) from other p q before after

    module _ (before : HasEdges (graph_of a.before) ways_before p) (after : HasEdges (graph_of a.after) ways_after q) where
      pub tests_are : (tests : List FlowComparisonTree) → tests ≡ tests_of (flat_map row_edges ps ++ flat_map row_edges qs) → tests ≡ first_tests (question_of a) (marks_of a)
      tests_are tests e = e ∙ ap tests_of (together ways_before ways_after before after)

      pub tests_refused : (e : TableFault) → (e ≡ table.TooManyTests → MAX_TESTS < length (tests_of (flat_map row_edges ps ++ flat_map row_edges qs))) → (e ≡ table.TooManyActions → ⊥) → HasFault a (of_table_fault e)
      tests_refused table.NoMemory h alone = inl refl
      tests_refused table.TooManyTests h alone = inr (subst (λ es. MAX_TESTS < length (tests_of es)) (together ways_before ways_after before after) (h refl))
      tests_refused table.TooManyActions h alone = absurd (alone refl)

    module _ (before : HasEdges (graph_of a.before) split_before p) (after : HasEdges (graph_of a.after) split_after q) where
      pub actions_are : (actions : List FlowActionTree) → actions ≡ actions_of (flat_map row_edges ps ++ flat_map row_edges qs) → actions ≡ flow_actions (question_of a) (marks_of a)
      actions_are actions e = e ∙ ap actions_of (together split_before split_after before after)

      pub actions_refused : (e : TableFault) → (e ≡ table.TooManyActions → MAX_ACTIONS < length (actions_of (flat_map row_edges ps ++ flat_map row_edges qs))) → (e ≡ table.TooManyTests → ⊥) → HasFault a (of_table_fault e)
      actions_refused table.NoMemory h alone = inl refl
      actions_refused table.TooManyTests h alone = absurd (alone refl)
      actions_refused table.TooManyActions h alone = inr (subst (λ es. MAX_ACTIONS < length (actions_of es)) (together split_before split_after before after) (h refl))

  -- ---- splits

  -- the edges of a graph, split
  module _ (tests : List FlowComparisonTree) (same : tests ≡ first_tests (question_of a) (marks_of a)) (old : PlacedEdges) where
    pub before_split : (new : PlacedEdges) → HasEdges (graph_of a.before) ways_before old → new.places.items ≡ old.places.items →
        map row_edges new.edges.items ≡ map (edges_with a.splits tests a.sorts) (map row_edges old.edges.items) → HasEdges (graph_of a.before) split_before new
    before_split new h p e =
        subst (λ ts. HasEdges (graph_of a.before) (λ k. edges_with a.splits ts a.sorts (ways_before k)) new) same
        (edges_then (graph_of a.before) ways_before (edges_with a.splits tests a.sorts) old new h p e)

    pub after_split : (new : PlacedEdges) → HasEdges (graph_of a.after) ways_after old → new.places.items ≡ old.places.items →
        map row_edges new.edges.items ≡ map (edges_with a.splits tests a.sorts) (map row_edges old.edges.items) → HasEdges (graph_of a.after) split_after new
    after_split new h p e =
        subst (λ ts. HasEdges (graph_of a.after) (λ k. edges_with a.splits ts a.sorts (ways_after k)) new) same
        (edges_then (graph_of a.after) ways_after (edges_with a.splits tests a.sorts) old new h p e)

    -- the rows of a graph, split
    rows_before : HasEdges (graph_of a.before) ways_before old → map (edges_with a.splits tests a.sorts) (map row_edges old.edges.items) ≡ map split_before (places (graph_of a.before))
    rows_before h =
        ap (map (edges_with a.splits tests a.sorts)) h.1
        ∙ map-places (edges_with a.splits tests a.sorts) ways_before (places (graph_of a.before))
        ∙ ap (λ ts. map (λ k. edges_with a.splits ts a.sorts (ways_before k)) (places (graph_of a.before))) same

    rows_after : HasEdges (graph_of a.after) ways_after old → map (edges_with a.splits tests a.sorts) (map row_edges old.edges.items) ≡ map split_after (places (graph_of a.after))
    rows_after h =
        ap (map (edges_with a.splits tests a.sorts)) h.1
        ∙ map-places (edges_with a.splits tests a.sorts) ways_after (places (graph_of a.after))
        ∙ ap (λ ts. map (λ k. edges_with a.splits ts a.sorts (ways_after k)) (places (graph_of a.after))) same

    pub before_many : HasEdges (graph_of a.before) ways_before old → (e : SplitFault) → (e ≡ split.TooManyPaths → a.splits ≡ true) →
        (e ≡ split.TooManyPaths → HasLongRow (map (edges_with a.splits tests a.sorts) (map row_edges old.edges.items))) → HasFault a (of_split_fault e)
    before_many h split.NoMemory s l = inl refl
    before_many h split.TooManyPaths s l =
        inr (inr (inl (s refl, long_place split_before (places (graph_of a.before)) (subst HasLongRow (rows_before h) (l refl)))))

    pub after_many : HasEdges (graph_of a.after) ways_after old → (e : SplitFault) → (e ≡ split.TooManyPaths → a.splits ≡ true) →
        (e ≡ split.TooManyPaths → HasLongRow (map (edges_with a.splits tests a.sorts) (map row_edges old.edges.items))) → HasFault a (of_split_fault e)
    after_many h split.NoMemory s l = inl refl
    after_many h split.TooManyPaths s l =
        inr (inr (inr (s refl, long_place split_after (places (graph_of a.after)) (subst HasLongRow (rows_after h) (l refl)))))

  pub before_short : (new : PlacedEdges) → HasEdges (graph_of a.before) split_before new → (a.splits ≡ true → AreShort (map row_edges new.edges.items)) → HasManySplits a.splits (graph_of a.before) split_before → ⊥
  before_short new h s m =
      let k = m.1 in
      let most = short_places split_before (places (graph_of a.before)) k.0 (subst AreShort h.1 (s m.0)) k.1 in
      let more = k.2 in
      omega (arith, most, more)

  pub after_short : (new : PlacedEdges) → HasEdges (graph_of a.after) split_after new → (a.splits ≡ true → AreShort (map row_edges new.edges.items)) → HasManySplits a.splits (graph_of a.after) split_after → ⊥
  after_short new h s m =
      let k = m.1 in
      let most = short_places split_after (places (graph_of a.after)) k.0 (subst AreShort h.1 (s m.0)) k.1 in
      let more = k.2 in
      omega (arith, most, more)
