-- All numbers of the problem of a question are in range, so only its size decides whether it is within the limits.
use Rattle.std.proofs.Common.{◌≡◌, ℕ, zero, suc, ◌<◌, ◌≤◌, ⊎_elim, Bool, true, false, not, ◌&&◌, nat_lt, List, [], ◌∷◌, ◌++◌, length, flat_map, slice_index_or, if◌then◌else◌, inl, inr, refl, sym, ◌∙◌, ap, subst, arith, length-append}
use Rattle.std.specs.List.{list_any}
use Rattle.std.proofs.lemmas.Bool.{and_parts, ltb-true, cases_lt}
use Rattle.std.proofs.lemmas.List.{get_or_past}
use Rattle.kat_model.specs.Members.{Has, IsSubset}
use Rattle.kat_model.specs.Problems.{IsProblem, problem_size}
use Rattle.kat_model.specs.declared.limits.TheConstants.{MAX_TESTS, MAX_ACTIONS, MAX_TERM_NODES}
use Rattle.kat_model.proofs.Lists.{has_left, has_right, flat_map_has}
use Rattle.flow_model.specs.declared.sort.Sort.{Sort}
use Rattle.flow_model.specs.Graphs.{Graph}
use Rattle.flow_forms.specs.Comparisons.{FlowComparisonTree, is_same_comparison}
use Rattle.flow_forms.proofs.SameComparisons.{one_comparison}
use Rattle.kat_model.proofs.RowMembers.{with_all_new_has}
use Rattle.flow_places.specs.Places.{places}
use Rattle.flow_places.specs.Loops.{HasUncutLoop}
use Rattle.flow_problem.specs.Edges.{FlowActionTree, Edge, is_idle, is_same_action, way_edges}
use Rattle.flow_problem.specs.EdgeTerms.{edge_comparisons, edge_actions, place_block, all_edges}
use Rattle.flow_problem.specs.Splits.{CellTest, cell_tests, split_edges}
use Rattle.flow_problem.specs.FlowRounds.{comparisons_before, with_comparison, with_comparisons, flow_round, flow_rounds}
use Rattle.flow_problem.specs.FlowProblems.{FlowQuestion, PairMarks, first_tests, edges_with, edges_before, edges_after, flow_actions, flow_tests, flow_parts}
use Rattle.flow_problem.specs.PlacedProblems.{graph_marks, pair_marks}
use Rattle.flow_problem.proofs.SameActions.{one_action}
use Rattle.flow_problem.proofs.SplitEdges.{AreWithin}
use Rattle.flow_problem.proofs.WholeProblems.{edges_within}
use Rattle.flow_problem.proofs.TableMembers.{rounds_keep, action_met}
use Rattle.flow_problem.proofs.PlacedGraphs.{graph_marked}
use Rattle.flow_abstraction.proofs.TermRanges.{AreListed, graph_in}
use Rattle.flow_abstraction.proofs.FactRanges.{hypotheses_in}

-- ---- rounds keep to the limit

one_within : (table : List FlowComparisonTree) (c : FlowComparisonTree) → length table ≤ MAX_TESTS → length (with_comparison table c) ≤ MAX_TESTS
one_within table c h = by_test (not (list_any (is_same_comparison c) table) && nat_lt (length table) MAX_TESTS) refl
  where
    by_test : (b : Bool) → (not (list_any (is_same_comparison c) table) && nat_lt (length table) MAX_TESTS) ≡ b → length (if b then table ++ c ∷ [] else table) ≤ MAX_TESTS
    by_test true e =
        let less = ltb-true (length table) MAX_TESTS (and_parts (not (list_any (is_same_comparison c) table)) (nat_lt (length table) MAX_TESTS) e).1 in
        omega (arith, length-append table (c ∷ []), less)
    by_test false e = h

all_within : (table cs : List FlowComparisonTree) → length table ≤ MAX_TESTS → length (with_comparisons table cs) ≤ MAX_TESTS
all_within table [] h = h
all_within table (c ∷ cs) h = all_within (with_comparison table c) cs (one_within table c h)

pub rounds_within : (n : ℕ) (sorts : List Sort) (actions : List FlowActionTree) (table : List FlowComparisonTree) → length table ≤ MAX_TESTS → length (flow_rounds n sorts actions table) ≤ MAX_TESTS
rounds_within zero sorts actions table h = h
rounds_within (suc n) sorts actions table h =
    rounds_within n sorts actions (flow_round sorts actions table) (all_within table (flat_map (comparisons_before sorts table) actions) h)

-- ---- edges are listed

module _ (q : FlowQuestion) (marks : PairMarks) where
  abbrev sorts : List Sort
  sorts = q.pair.sorts

  abbrev table : List FlowComparisonTree
  table = first_tests q marks

  abbrev met_before : List Edge
  met_before = all_edges marks.before.places (way_edges q.pair.before sorts marks.before)

  abbrev met_after : List Edge
  met_after = all_edges marks.after.places (way_edges q.pair.after sorts marks.after)

  met_within : AreWithin table (met_before ++ met_after)
  met_within e h c m =
      with_all_new_has is_same_comparison one_comparison [] (flat_map edge_comparisons (met_before ++ met_after)) c
      (flat_map_has edge_comparisons (met_before ++ met_after) e c h m)

  abbrev acting_before : List Edge
  acting_before = all_edges marks.before.places (edges_before q marks)

  abbrev acting_after : List Edge
  acting_after = all_edges marks.after.places (edges_after q marks)

  action_there : (e : Edge) → Has (acting_before ++ acting_after) e → is_idle e.action ≡ false → Has (flow_actions q marks) e.action
  action_there e h busy =
      with_all_new_has is_same_action one_action [] (flat_map edge_actions (acting_before ++ acting_after)) e.action
      (flat_map_has edge_actions (acting_before ++ acting_after) e e.action h (action_met e busy))

  among_tests : IsSubset table (flow_tests q marks)
  among_tests = rounds_keep q.rounds sorts (flow_actions q marks) table

  listed_before : (k : ℕ) → Has marks.before.places k → AreListed (flow_tests q marks) (flow_actions q marks) (edges_before q marks k)
  listed_before k place e h = record {
    tests_there = λ c m. among_tests c (edges_within sorts q.splits table (way_edges q.pair.before sorts marks.before k)
        (λ d l. met_within d (has_left met_before met_after d (flat_map_has (way_edges q.pair.before sorts marks.before) marks.before.places k d place l))) e h c m);
    action_there = action_there e (has_left acting_before acting_after e (flat_map_has (edges_before q marks) marks.before.places k e place h));
  }

  listed_after : (k : ℕ) → Has marks.after.places k → AreListed (flow_tests q marks) (flow_actions q marks) (edges_after q marks k)
  listed_after k place e h = record {
    tests_there = λ c m. among_tests c (edges_within sorts q.splits table (way_edges q.pair.after sorts marks.after k)
        (λ d l. met_within d (has_right met_before met_after d (flat_map_has (way_edges q.pair.after sorts marks.after) marks.after.places k d place l))) e h c m);
    action_there = action_there e (has_right acting_before acting_after e (flat_map_has (edges_after q marks) marks.after.places k e place h));
  }

-- ---- the blocks of places

member : (ks : List ℕ) (i : ℕ) → i < length ks → Has ks (slice_index_or ks i 0)
member [] i h = absurd (omega arith)
member (k ∷ ks) zero h = inl refl
member (k ∷ ks) (suc i) h = inr (member ks i (omega arith))

-- a place, or the entry where there is no such place; only a graph without blocks has no place
block_listed : (g : Graph) (P : ℕ → Type 0) → (HasUncutLoop g → ⊥) → ((k : ℕ) → Has (places g) k → P k) → (g ≡ [] → P 0) → (i : ℕ) → P (place_block (places g) i)
block_listed g P cut each none i =
    ⊎_elim
    (λ lt. each (place_block (places g) i) (member (places g) i lt))
    (λ past. subst P (sym (get_or_past (places g) i 0 past)) (entry g cut each none))
    (cases_lt i (length (places g)))
  where
    entry : (h : Graph) → (HasUncutLoop h → ⊥) → ((k : ℕ) → Has (places h) k → P k) → (h ≡ [] → P 0) → P 0
    entry [] c e n = n refl
    entry (b ∷ bs) c e n = let m = graph_marked (b ∷ bs) (omega arith) c in e 0 (m.listed 0 m.entry)

-- the places of a graph with no blocks have no edges
no_edges : (b : Bool) (tests : List FlowComparisonTree) (sorts : List Sort) (g : Graph) (k : ℕ) → g ≡ [] → edges_with b tests sorts (way_edges g sorts (graph_marks g) k) ≡ []
no_edges b tests sorts g k e = ap (λ h. edges_with b tests sorts (way_edges h sorts (graph_marks h) k)) e ∙ by_test b
  where
    none : (xs : List CellTest) → split_edges sorts xs [] ≡ []
    none [] = refl
    none (x ∷ xs) = none xs

    by_test : (c : Bool) → edges_with c tests sorts [] ≡ []
    by_test true = none (cell_tests sorts tests)
    by_test false = refl

-- a graph without places has no blocks
no_blocks : (g : Graph) → (HasUncutLoop g → ⊥) → places g ≡ [] → g ≡ []
no_blocks [] cut e = refl
no_blocks (b ∷ bs) cut e =
    let m = graph_marked (b ∷ bs) (omega arith) cut in
    absurd (subst (λ ks. Has ks 0) e (m.listed 0 m.entry))

pub no_edges_there : (b : Bool) (tests : List FlowComparisonTree) (sorts : List Sort) (g : Graph) → (HasUncutLoop g → ⊥) → places g ≡ [] → edges_with b tests sorts (way_edges g sorts (graph_marks g) 0) ≡ []
no_edges_there b tests sorts g cut e = no_edges b tests sorts g 0 (no_blocks g cut e)

module _ (q : FlowQuestion) (before_cut : HasUncutLoop q.pair.before → ⊥) (after_cut : HasUncutLoop q.pair.after → ⊥) where
  abbrev own : PairMarks
  own = pair_marks q.pair

  none_listed : (tests : List FlowComparisonTree) (actions : List FlowActionTree) (es : List Edge) → es ≡ [] → AreListed tests actions es
  none_listed tests actions es e d h = absurd (subst (λ ds. Has ds d) e h)

  pub question_in : length (first_tests q own) ≤ MAX_TESTS → length (flow_actions q own) ≤ MAX_ACTIONS → problem_size (flow_parts q own) ≤ MAX_TERM_NODES → IsProblem (flow_parts q own)
  question_in few acts size = record {
    tests = rounds_within q.rounds q.pair.sorts (flow_actions q own) (first_tests q own) few;
    actions = acts;
    hyps = hypotheses_in q.pair.sorts (flow_tests q own) (flow_actions q own);
    left = graph_in (flow_tests q own) (flow_actions q own) own.before.places (edges_before q own)
        (block_listed q.pair.before (λ k. AreListed (flow_tests q own) (flow_actions q own) (edges_before q own k)) before_cut (listed_before q own)
        (λ e. none_listed (flow_tests q own) (flow_actions q own) (edges_before q own 0) (no_edges q.splits (first_tests q own) q.pair.sorts q.pair.before 0 e)));
    right = graph_in (flow_tests q own) (flow_actions q own) own.after.places (edges_after q own)
        (block_listed q.pair.after (λ k. AreListed (flow_tests q own) (flow_actions q own) (edges_after q own k)) after_cut (listed_after q own)
        (λ e. none_listed (flow_tests q own) (flow_actions q own) (edges_after q own 0) (no_edges q.splits (first_tests q own) q.pair.sorts q.pair.after 0 e)));
    size = size;
  }
