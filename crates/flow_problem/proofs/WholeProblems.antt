-- The problem of a question is about its graphs.
use Rattle.std.proofs.Common.{◌≡◌, ℕ, Bool, true, false, List, [], ◌++◌, length, map, flat_map, slice_get, nat_lt, Some, Ok, Err, if◌then◌else◌, refl, sym, subst}
use Rattle.std.specs.List.{enumerate_from}
use Rattle.kat_model.specs.Members.{Has, IsSubset}
use Rattle.kat_model.specs.Trees.{Term}
use Rattle.kat_model.specs.Problems.{problem_size}
use Rattle.kat_model.specs.declared.limits.TheConstants.{MAX_TESTS, MAX_ACTIONS, MAX_TERM_NODES, MAX_HYPS}
use Rattle.kat_model.proofs.Lists.{has_left, has_right, has_map, map_has, has_flat_map, flat_map_has}
use Rattle.flow_model.specs.declared.sort.Sort.{Sort}
use Rattle.flow_model.specs.Sorts.{State, IsState}
use Rattle.flow_model.specs.Graphs.{Graph}
use Rattle.flow_model.specs.Interpretations.{Interpretation}
use Rattle.flow_forms.specs.Comparisons.{FlowComparisonTree, is_same_comparison}
use Rattle.flow_ways.specs.Ways.{Way, ways, AllHold}
use Rattle.kat_model.proofs.RelatesNothing.{RelatesNone}
use Rattle.flow_problem.specs.Edges.{FlowActionTree, Edge, Marks, is_idle, is_same_action, edge_of, way_edges}
use Rattle.flow_problem.specs.Points.{FlowProblem, point_frame, IsAbout}
use Rattle.flow_problem.specs.EdgeTerms.{edge_comparisons, edge_actions, all_edges}
use Rattle.flow_problem.specs.Splits.{cell_tests}
use Rattle.flow_problem.specs.FlowFacts.{FlowHypothesis, NumberedTest, order_fact, equality_fact, three_way_fact, two_interval_fact, three_interval_fact, next_number_fact, for_pairs, for_triples, action_facts, facts_between, flow_hypotheses}
use Rattle.flow_problem.specs.FlowProblems.{FlowQuestion, PairMarks, too_many_tests, too_many_actions, problem_too_large, first_tests, edges_with, edges_before, edges_after, flow_actions, flow_tests, flow_parts, whole_problem, problem_by, HasMarks}
use Rattle.flow_forms.proofs.SameComparisons.{one_comparison}
use Rattle.flow_problem.proofs.SameActions.{one_action}
use Rattle.flow_problem.proofs.EdgeRelations.{IsListed}
use Rattle.flow_problem.proofs.GraphTerms.{DoesAs, AreWays, term_of_runs}
use Rattle.flow_problem.proofs.AssignmentsHold.{Hold, hold_both, action_facts_hold}
use Rattle.flow_problem.proofs.FlowFactsHold.{order_fact_holds, equality_fact_holds, three_way_fact_holds, next_number_fact_holds}
use Rattle.flow_problem.proofs.IntervalsHold.{two_interval_fact_holds, three_interval_fact_holds}
use Rattle.flow_problem.proofs.SplitEdges.{Refines, refines_itself, split_all_refine, refined_ways, AreWithin, split_all_within, cell_tests_are, cell_tests_there}
use Rattle.kat_model.proofs.RowMembers.{with_all_new_has}
use Rattle.flow_problem.proofs.TableMembers.{rounds_keep, action_met, row_there}

-- ---- hypotheses

module _ (I : Interpretation) (sorts : List Sort) (tests : List FlowComparisonTree) (actions : List FlowActionTree) where
  abbrev AllHolding : List FlowHypothesis → Type 0
  AllHolding hs = Hold I sorts tests actions hs

  flat_hold : {X : Type 0} (make : X → List FlowHypothesis) (xs : List X) → ((x : X) → Has xs x → AllHolding (make x)) → AllHolding (flat_map make xs)
  flat_hold make xs each h m = let r = has_flat_map make xs h m in each r.0 r.1 h r.2

  pairs_hold : {X Y : Type 0} (make : X → Y → List FlowHypothesis) (xs : List X) (ys : List Y) → ((x : X) (y : Y) → Has xs x → Has ys y → AllHolding (make x y)) → AllHolding (for_pairs make xs ys)
  pairs_hold make xs ys each = flat_hold (λ x. flat_map (make x) ys) xs (λ x h. flat_hold (make x) ys (λ y k. each x y h k))

  abbrev rows : List NumberedTest
  rows = enumerate_from 0 tests

  two_tests_hold : (make : NumberedTest → NumberedTest → List FlowHypothesis) →
      ((a b : NumberedTest) → slice_get tests a.0 ≡ Some a.1 → slice_get tests b.0 ≡ Some b.1 → AllHolding (make a b)) → AllHolding (for_pairs make rows rows)
  two_tests_hold make each = pairs_hold make rows rows (λ a b h k. each a b (row_there tests a h) (row_there tests b k))

  three_tests_hold : (make : NumberedTest → NumberedTest → NumberedTest → List FlowHypothesis) →
      ((a b c : NumberedTest) → slice_get tests a.0 ≡ Some a.1 → slice_get tests b.0 ≡ Some b.1 → slice_get tests c.0 ≡ Some c.1 → AllHolding (make a b c)) → AllHolding (for_triples make rows)
  three_tests_hold make each =
      flat_hold (λ a. for_pairs (make a) rows rows) rows
      (λ a h. two_tests_hold (make a) (λ b c p q. each a b c (row_there tests a h) p q))

  abbrev both : (hs gs : List FlowHypothesis) → AllHolding hs → AllHolding gs → AllHolding (hs ++ gs)
  both = hold_both I sorts tests actions

  facts_hold : AllHolding (facts_between rows)
  facts_hold =
      let a1 = for_pairs order_fact rows rows in
      let a2 = a1 ++ for_pairs equality_fact rows rows in
      let a3 = a2 ++ for_triples three_way_fact rows in
      let a4 = a3 ++ for_pairs two_interval_fact rows rows in
      let a5 = a4 ++ for_triples three_interval_fact rows in
      both a5 (for_triples next_number_fact rows)
      (both a4 (for_triples three_interval_fact rows)
      (both a3 (for_pairs two_interval_fact rows rows)
      (both a2 (for_triples three_way_fact rows)
      (both a1 (for_pairs equality_fact rows rows)
      (two_tests_hold order_fact (order_fact_holds I sorts tests actions))
      (two_tests_hold equality_fact (equality_fact_holds I sorts tests actions)))
      (three_tests_hold three_way_fact (three_way_fact_holds I sorts tests actions)))
      (two_tests_hold two_interval_fact (two_interval_fact_holds I sorts tests actions)))
      (three_tests_hold three_interval_fact (three_interval_fact_holds I sorts tests actions)))
      (three_tests_hold next_number_fact (next_number_fact_holds I sorts tests actions))

  hypotheses_hold : AllHolding (flow_hypotheses sorts tests actions)
  hypotheses_hold =
      both (for_pairs (action_facts sorts tests) (enumerate_from 0 actions) rows) (facts_between rows)
      (pairs_hold (action_facts sorts tests) (enumerate_from 0 actions) rows
      (λ a b h k. action_facts_hold I sorts tests actions a b (row_there actions a h) (row_there tests b k)))
      facts_hold

  pub terms_relate_none : (h : Term) → Has (map (λ x. x.term) (flow_hypotheses sorts tests actions)) h → RelatesNone (point_frame I sorts tests actions) h
  terms_relate_none h m =
      let r = has_map (λ (x : FlowHypothesis). x.term) (flow_hypotheses sorts tests actions) h m in
      subst (RelatesNone (point_frame I sorts tests actions)) r.2 (hypotheses_hold r.0 r.1)

-- ---- edges

-- the edges from a place stand for its ways
module _ (I : Interpretation) (g : Graph) (sorts : List Sort) (marks : Marks) (k : ℕ) (s : State) where
  way_does : (way : Way) → AllHold I s way.tests → DoesAs I sorts marks s (edge_of marks sorts way) way
  way_does way all = record { edge_tests = all; way_tests = all; target = refl; point = refl }

  edges_sound : (e : Edge) → Has (map (edge_of marks sorts) (ways g sorts marks.is_place k)) e → AllHold I s e.tests → (way : Way) × Has (ways g sorts marks.is_place k) way × DoesAs I sorts marks s e way
  edges_sound e h all =
      let r = has_map (edge_of marks sorts) (ways g sorts marks.is_place k) e h in
      (r.0, r.1, subst (λ x. DoesAs I sorts marks s x r.0) r.2 (way_does r.0 (subst (λ (x : Edge). AllHold I s x.tests) (sym r.2) all)))

  ways_are : AreWays I sorts marks s (way_edges g sorts marks k) (ways g sorts marks.is_place k)
  ways_are = record {
    sound = edges_sound;
    complete = λ way h all. (edge_of marks sorts way, map_has (edge_of marks sorts) (ways g sorts marks.is_place k) way h, way_does way all);
  }

-- edges that are split where the question says so
edges_refine : (I : Interpretation) (sorts : List Sort) (s : State) → IsState sorts s → (b : Bool) (tests : List FlowComparisonTree) (es : List Edge) → Refines I sorts s es (edges_with b tests sorts es)
edges_refine I sorts s is true tests es = split_all_refine I sorts s is (cell_tests sorts tests) es (cell_tests_are sorts tests)
edges_refine I sorts s is false tests es = refines_itself I sorts s es

pub edges_within : (sorts : List Sort) (b : Bool) (tests : List FlowComparisonTree) (es : List Edge) → AreWithin tests es → AreWithin tests (edges_with b tests sorts es)
edges_within sorts true tests es within = split_all_within sorts tests (cell_tests sorts tests) es (cell_tests_there sorts tests) within
edges_within sorts false tests es within = within

-- ---- the whole problem

past_refusals : (x y : FlowProblem) (p q r t : Bool) →
    (if p then Err too_many_tests else if q then Err too_many_actions else if r then Err problem_too_large else if t then Err problem_too_large else Ok x) ≡ Ok y → x ≡ y
past_refusals x y true q r t e = absurd cc
past_refusals x y false true r t e = absurd cc
past_refusals x y false false true t e = absurd cc
past_refusals x y false false false true e = absurd cc
past_refusals x y false false false false e = cc

whole_is : (q : FlowQuestion) (marks : PairMarks) (p : FlowProblem) → problem_by q marks ≡ Ok p → whole_problem q marks ≡ p
whole_is q marks p e =
    past_refusals (whole_problem q marks) p
    (nat_lt MAX_TESTS (length (first_tests q marks))) (nat_lt MAX_ACTIONS (length (flow_actions q marks)))
    (nat_lt MAX_HYPS (length (flow_parts q marks).hyps)) (nat_lt MAX_TERM_NODES (problem_size (flow_parts q marks)))
    e

module _ (q : FlowQuestion) (marks : PairMarks) (has : HasMarks q.pair marks) where
  abbrev sorts : List Sort
  sorts = q.pair.sorts

  abbrev table : List FlowComparisonTree
  table = first_tests q marks

  abbrev tests : List FlowComparisonTree
  tests = flow_tests q marks

  abbrev actions : List FlowActionTree
  actions = flow_actions q marks

  abbrev ways_before : ℕ → List Edge
  ways_before = way_edges q.pair.before sorts marks.before

  abbrev ways_after : ℕ → List Edge
  ways_after = way_edges q.pair.after sorts marks.after

  abbrev met_before : List Edge
  met_before = all_edges marks.before.places ways_before

  abbrev met_after : List Edge
  met_after = all_edges marks.after.places ways_after

  -- the comparisons of the edges that are met are in the table
  comparisons_there : AreWithin table (met_before ++ met_after)
  comparisons_there e h c m =
      with_all_new_has is_same_comparison one_comparison [] (flat_map edge_comparisons (met_before ++ met_after)) c
      (flat_map_has edge_comparisons (met_before ++ met_after) e c h m)

  abbrev acting_before : List Edge
  acting_before = all_edges marks.before.places (edges_before q marks)

  abbrev acting_after : List Edge
  acting_after = all_edges marks.after.places (edges_after q marks)

  action_there : (e : Edge) → Has (acting_before ++ acting_after) e → is_idle e.action ≡ false → Has actions e.action
  action_there e h busy =
      with_all_new_has is_same_action one_action [] (flat_map edge_actions (acting_before ++ acting_after)) e.action
      (flat_map_has edge_actions (acting_before ++ acting_after) e e.action h (action_met e busy))

  -- the edges from a place, before they are split and after
  within_before : (k : ℕ) → marks.before.is_place k ≡ true → AreWithin table (ways_before k)
  within_before k place e h =
      comparisons_there e (has_left met_before met_after e (flat_map_has ways_before marks.before.places k e (has.before_marked.listed k place) h))

  within_after : (k : ℕ) → marks.after.is_place k ≡ true → AreWithin table (ways_after k)
  within_after k place e h =
      comparisons_there e (has_right met_before met_after e (flat_map_has ways_after marks.after.places k e (has.after_marked.listed k place) h))

  among_tests : IsSubset table tests
  among_tests = rounds_keep q.rounds sorts actions table

  listed_before : (k : ℕ) → marks.before.is_place k ≡ true → (e : Edge) → Has (edges_before q marks k) e → IsListed tests actions e
  listed_before k place e h = record {
    tests_there = λ c m. among_tests c (edges_within sorts q.splits table (ways_before k) (within_before k place) e h c m);
    action_there =
        action_there e
        (has_left acting_before acting_after e (flat_map_has (edges_before q marks) marks.before.places k e (has.before_marked.listed k place) h));
  }

  listed_after : (k : ℕ) → marks.after.is_place k ≡ true → (e : Edge) → Has (edges_after q marks k) e → IsListed tests actions e
  listed_after k place e h = record {
    tests_there = λ c m. among_tests c (edges_within sorts q.splits table (ways_after k) (within_after k place) e h c m);
    action_there =
        action_there e
        (has_right acting_before acting_after e (flat_map_has (edges_after q marks) marks.after.places k e (has.after_marked.listed k place) h));
  }

  are_before : (I : Interpretation) (k : ℕ) (s : State) → IsState sorts s → AreWays I sorts marks.before s (edges_before q marks k) (ways q.pair.before sorts marks.before.is_place k)
  are_before I k s is =
      refined_ways I sorts s marks.before (ways q.pair.before sorts marks.before.is_place k) (ways_before k) (edges_before q marks k)
      (ways_are I q.pair.before sorts marks.before k s) (edges_refine I sorts s is q.splits table (ways_before k))

  are_after : (I : Interpretation) (k : ℕ) (s : State) → IsState sorts s → AreWays I sorts marks.after s (edges_after q marks k) (ways q.pair.after sorts marks.after.is_place k)
  are_after I k s is =
      refined_ways I sorts s marks.after (ways q.pair.after sorts marks.after.is_place k) (ways_after k) (edges_after q marks k)
      (ways_are I q.pair.after sorts marks.after k s) (edges_refine I sorts s is q.splits table (ways_after k))

  whole_is_about : IsAbout q.pair (whole_problem q marks)
  whole_is_about = record {
    tests = refl;
    actions = refl;
    hypotheses = λ I h m. terms_relate_none I sorts tests actions h m;
    left = λ I s is vs. term_of_runs I q.pair.before sorts marks.before has.before_sorted has.before_marked tests actions (edges_before q marks) listed_before (are_before I) s is vs;
    right = λ I s is vs. term_of_runs I q.pair.after sorts marks.after has.after_sorted has.after_marked tests actions (edges_after q marks) listed_after (are_after I) s is vs;
  }

pub problem_is_about : (q : FlowQuestion) (marks : PairMarks) (p : FlowProblem) → HasMarks q.pair marks → problem_by q marks ≡ Ok p → IsAbout q.pair p
problem_is_about q marks p has e = subst (IsAbout q.pair) (whole_is q marks p e) (whole_is_about q marks has)
