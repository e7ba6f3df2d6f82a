-- Split edges lead where the edges lead that they come from.
use Rattle.std.proofs.Common.{◌≡◌, ◌⊎◌, inl, inr, ⊎_elim, Bool, true, false, ◌&&◌, List, [], ◌∷◌, ◌++◌, flat_map, Option, Some, None, if◌then◌else◌, refl, sym, ◌∙◌, ap, subst}
use Rattle.std.proofs.lemmas.Bool.{cases_Bool, not_from_false}
use Rattle.kat_model.specs.Members.{Has, IsSubset}
use Rattle.kat_model.proofs.Lists.{has_left, has_right, has_append, has_flat_map, flat_map_has}
use Rattle.flow_model.specs.declared.sort.Sort.{Sort}
use Rattle.flow_model.specs.Sorts.{State, IsState}
use Rattle.flow_model.specs.Interpretations.{Interpretation}
use Rattle.flow_forms.specs.Comparisons.{FlowComparisonTree, comparison_holds}
use Rattle.flow_ways.specs.Conditions.{FlowCondTree, atom, negation, facts_of, value_known}
use Rattle.flow_ways.specs.Ways.{Way, AllHold}
use Rattle.flow_ways.proofs.CondValues.{FactsHold, FactsHold-append, known_holds, facts_hold}
use Rattle.flow_problem.specs.Edges.{Edge, Marks}
use Rattle.flow_problem.specs.Points.{point_after}
use Rattle.flow_problem.specs.EdgeTerms.{comparisons_of, edge_comparisons}
use Rattle.flow_problem.specs.Splits.{CellTest, cell_test, cell_tests, action_reads, action_fits, edge_where_equal, edge_where_other, edges_by, facts_of_all, split_edge, split_edges}
use Rattle.flow_problem.proofs.GraphTerms.{DoesAs, AreWays}
use Rattle.flow_problem.proofs.SplitValues.{IsTestOf, action_same, test_of_cell}

-- ---- tests in a row

all_append : (I : Interpretation) (s : State) (bs cs : List FlowCondTree) → AllHold I s bs → AllHold I s cs → AllHold I s (bs ++ cs)
all_append I s [] cs h k = k
all_append I s (b ∷ bs) cs h k = (h.0, all_append I s bs cs h.1 k)

all_parts : (I : Interpretation) (s : State) (bs cs : List FlowCondTree) → AllHold I s (bs ++ cs) → AllHold I s bs × AllHold I s cs
all_parts I s [] cs h = (tt, h)
all_parts I s (b ∷ bs) cs h = let k = all_parts I s bs cs h.1 in ((h.0, k.0), k.1)

all_facts : (I : Interpretation) (s : State) (bs : List FlowCondTree) → AllHold I s bs → FactsHold I s (facts_of_all bs)
all_facts I s [] h = tt
all_facts I s (b ∷ bs) h = FactsHold-append I s (facts_of b true) (facts_of_all bs) (facts_hold I s b true h.0) (all_facts I s bs h.1)

-- ---- edges that lead where others lead

pub record SameEdge (I : Interpretation) (sorts : List Sort) (s : State) (d e : Edge) : Type 0 where
  pub first_tests : AllHold I s d.tests
  pub second_tests : AllHold I s e.tests
  pub target : d.target ≡ e.target
  pub point : point_after I sorts d.action s ≡ point_after I sorts e.action s

-- the edges `ds` lead where the edges `es` lead
pub record Refines (I : Interpretation) (sorts : List Sort) (s : State) (es ds : List Edge) : Type 0 where
  pub sound : (d : Edge) → Has ds d → AllHold I s d.tests → (e : Edge) × Has es e × SameEdge I sorts s d e
  pub complete : (e : Edge) → Has es e → AllHold I s e.tests → (d : Edge) × Has ds d × SameEdge I sorts s d e

module _ (I : Interpretation) (sorts : List Sort) (s : State) where
  own_edge : (e : Edge) → AllHold I s e.tests → SameEdge I sorts s e e
  own_edge e h = record { first_tests = h; second_tests = h; target = refl; point = refl }

  pub refines_itself : (es : List Edge) → Refines I sorts s es es
  refines_itself es = record { sound = λ d h all. (d, h, own_edge d all); complete = λ e h all. (e, h, own_edge e all) }

  then_edge : (c d e : Edge) → SameEdge I sorts s c d → SameEdge I sorts s d e → SameEdge I sorts s c e
  then_edge c d e p q = record { first_tests = p.first_tests; second_tests = q.second_tests; target = p.target ∙ q.target; point = p.point ∙ q.point }

  refines_then : (es ds cs : List Edge) → Refines I sorts s es ds → Refines I sorts s ds cs → Refines I sorts s es cs
  refines_then es ds cs p q = record { sound = sound; complete = complete }
    where
      sound : (c : Edge) → Has cs c → AllHold I s c.tests → (e : Edge) × Has es e × SameEdge I sorts s c e
      sound c h all =
          let d = q.sound c h all in
          let e = p.sound d.0 d.1 d.2.second_tests in
          (e.0, e.1, then_edge c d.0 e.0 d.2 e.2)

      complete : (e : Edge) → Has es e → AllHold I s e.tests → (c : Edge) × Has cs c × SameEdge I sorts s c e
      complete e h all =
          let d = p.complete e h all in
          let c = q.complete d.0 d.1 d.2.first_tests in
          (c.0, c.1, then_edge c.0 d.0 e c.2 d.2)

  -- each edge split by itself
  one_of : (e d : Edge) → Has (e ∷ []) d → e ≡ d
  one_of e d (inl q) = q
  one_of e d (inr k) = absurd k

  refines_flat : (make : Edge → List Edge) (es : List Edge) → ((e : Edge) → Has es e → Refines I sorts s (e ∷ []) (make e)) → Refines I sorts s es (flat_map make es)
  refines_flat make es each = record { sound = sound; complete = complete }
    where
      sound : (d : Edge) → Has (flat_map make es) d → AllHold I s d.tests → (e : Edge) × Has es e × SameEdge I sorts s d e
      sound d h all =
          let from = has_flat_map make es d h in
          let e = (each from.0 from.1).sound d from.2 all in
          (from.0, from.1, subst (SameEdge I sorts s d) (sym (one_of from.0 e.0 e.1)) e.2)

      complete : (e : Edge) → Has es e → AllHold I s e.tests → (d : Edge) × Has (flat_map make es) d × SameEdge I sorts s d e
      complete e h all =
          let d = (each e h).complete e (inl refl) all in
          (d.0, flat_map_has make es e d.0 h d.1, d.2)

  -- ---- an edge split by a test

  module _ (is : IsState sorts s) (x : CellTest) (c : FlowComparisonTree) (test : IsTestOf sorts c x) (e : Edge) where
    equal_edge : (bs : List FlowCondTree) → AllHold I s e.tests → AllHold I s bs → comparison_holds I s x.comparison ≡ true → SameEdge I sorts s (edge_where_equal sorts x bs e) e
    equal_edge bs h k t = record {
      first_tests = all_append I s e.tests bs h k;
      second_tests = h;
      target = refl;
      point = action_same I s sorts is x (test.denotes I s is (ap (comparison_holds I s) (sym test.comparison) ∙ t)) test.small e.action;
    }

    other_edge : (bs : List FlowCondTree) → AllHold I s e.tests → AllHold I s bs → SameEdge I sorts s (edge_where_other bs e) e
    other_edge bs h k = record { first_tests = all_append I s e.tests bs h k; second_tests = h; target = refl; point = refl }

    refined_by : (o : Option Bool) → ((b : Bool) → o ≡ Some b → AllHold I s e.tests → comparison_holds I s x.comparison ≡ b) → Refines I sorts s (e ∷ []) (edges_by sorts x e o)
    refined_by None known = record { sound = sound; complete = complete }
      where
        sound : (d : Edge) → Has (edges_by sorts x e None) d → AllHold I s d.tests → (g : Edge) × Has (e ∷ []) g × SameEdge I sorts s d g
        sound d (inl q) all =
            let parts = all_parts I s e.tests (atom x.comparison ∷ []) (subst (λ (g : Edge). AllHold I s g.tests) (sym q) all) in
            (e, inl refl, subst (λ g. SameEdge I sorts s g e) q (equal_edge (atom x.comparison ∷ []) parts.0 parts.1 parts.1.0))
        sound d (inr (inl q)) all =
            let parts = all_parts I s e.tests (negation (atom x.comparison) ∷ []) (subst (λ (g : Edge). AllHold I s g.tests) (sym q) all) in
            (e, inl refl, subst (λ g. SameEdge I sorts s g e) q (other_edge (negation (atom x.comparison) ∷ []) parts.0 parts.1))
        sound d (inr (inr k)) all = absurd k

        by_truth : (g : Edge) → e ≡ g → AllHold I s g.tests → (comparison_holds I s x.comparison ≡ true) ⊎ (comparison_holds I s x.comparison ≡ false) →
            (d : Edge) × Has (edges_by sorts x e None) d × SameEdge I sorts s d g
        by_truth g q all (inl t) =
            let own = subst (λ (y : Edge). AllHold I s y.tests) (sym q) all in
            (edge_where_equal sorts x (atom x.comparison ∷ []) e, inl refl, subst (SameEdge I sorts s (edge_where_equal sorts x (atom x.comparison ∷ []) e)) q (equal_edge (atom x.comparison ∷ []) own (t, tt) t))
        by_truth g q all (inr t) =
            let own = subst (λ (y : Edge). AllHold I s y.tests) (sym q) all in
            (edge_where_other (negation (atom x.comparison) ∷ []) e, inr (inl refl), subst (SameEdge I sorts s (edge_where_other (negation (atom x.comparison) ∷ []) e)) q (other_edge (negation (atom x.comparison) ∷ []) own (not_from_false (comparison_holds I s x.comparison) t, tt)))

        complete : (g : Edge) → Has (e ∷ []) g → AllHold I s g.tests → (d : Edge) × Has (edges_by sorts x e None) d × SameEdge I sorts s d g
        complete g h all = by_truth g (one_of e g h) all (cases_Bool (comparison_holds I s x.comparison))
    refined_by (Some true) known = record { sound = sound; complete = complete }
      where
        equal_if : AllHold I s e.tests → SameEdge I sorts s (edge_where_equal sorts x [] e) e
        equal_if h = equal_edge [] h tt (known true refl h)

        sound : (d : Edge) → Has (edges_by sorts x e (Some true)) d → AllHold I s d.tests → (g : Edge) × Has (e ∷ []) g × SameEdge I sorts s d g
        sound d (inl q) all =
            let parts = all_parts I s e.tests [] (subst (λ (g : Edge). AllHold I s g.tests) (sym q) all) in
            (e, inl refl, subst (λ g. SameEdge I sorts s g e) q (equal_if parts.0))
        sound d (inr k) all = absurd k

        complete : (g : Edge) → Has (e ∷ []) g → AllHold I s g.tests → (d : Edge) × Has (edges_by sorts x e (Some true)) d × SameEdge I sorts s d g
        complete g h all =
            let q = one_of e g h in
            (edge_where_equal sorts x [] e, inl refl, subst (SameEdge I sorts s (edge_where_equal sorts x [] e)) q (equal_if (subst (λ (y : Edge). AllHold I s y.tests) (sym q) all)))
    refined_by (Some false) known = refines_itself (e ∷ [])

    split_refines : Refines I sorts s (e ∷ []) (split_edge sorts x e)
    split_refines = by_test (action_reads x.cell e.action && action_fits sorts x e.action)
      where
        by_test : (b : Bool) → Refines I sorts s (e ∷ []) (if b then edges_by sorts x e (value_known (facts_of_all e.tests) x.comparison) else e ∷ [])
        by_test true =
            refined_by (value_known (facts_of_all e.tests) x.comparison)
            (λ b q h. known_holds I s (facts_of_all e.tests) x.comparison b (all_facts I s e.tests h) q)
        by_test false = refines_itself (e ∷ [])

  pub split_all_refine : (is : IsState sorts s) (xs : List CellTest) (es : List Edge) → ((x : CellTest) → Has xs x → (c : FlowComparisonTree) × IsTestOf sorts c x) → Refines I sorts s es (split_edges sorts xs es)
  split_all_refine is [] es tests = refines_itself es
  split_all_refine is (x ∷ xs) es tests =
      let test = tests x (inl refl) in
      refines_then es (flat_map (split_edge sorts x) es) (split_edges sorts xs (flat_map (split_edge sorts x) es))
      (refines_flat (split_edge sorts x) es (λ e h. split_refines is x test.0 test.1 e))
      (split_all_refine is xs (flat_map (split_edge sorts x) es) (λ y h. tests y (inr h)))

  -- edges that stand for ways, refined
  pub refined_ways : (marks : Marks) (ways : List Way) (es ds : List Edge) → AreWays I sorts marks s es ways → Refines I sorts s es ds → AreWays I sorts marks s ds ways
  refined_ways marks ways es ds are refines = record { sound = sound; complete = complete }
    where
      does : (d e : Edge) (way : Way) → SameEdge I sorts s d e → DoesAs I sorts marks s e way → DoesAs I sorts marks s d way
      does d e way same own = record { edge_tests = same.first_tests; way_tests = own.way_tests; target = same.target ∙ own.target; point = same.point ∙ own.point }

      sound : (d : Edge) → Has ds d → AllHold I s d.tests → (way : Way) × Has ways way × DoesAs I sorts marks s d way
      sound d h all =
          let e = refines.sound d h all in
          let way = are.sound e.0 e.1 e.2.second_tests in
          (way.0, way.1, does d e.0 way.0 e.2 way.2)

      complete : (way : Way) → Has ways way → AllHold I s way.tests → (d : Edge) × Has ds d × DoesAs I sorts marks s d way
      complete way h all =
          let e = are.complete way h all in
          let d = refines.complete e.0 e.1 e.2.edge_tests in
          (d.0, d.1, does d.0 e.0 way d.2 e.2)

-- ---- the comparisons of split edges

flat_append : (bs cs : List FlowCondTree) (c : FlowComparisonTree) → Has (flat_map comparisons_of (bs ++ cs)) c → Has (flat_map comparisons_of bs) c ⊎ Has (flat_map comparisons_of cs) c
flat_append [] cs c h = inr h
flat_append (b ∷ bs) cs c h =
    ⊎_elim
    (λ k. inl (has_left (comparisons_of b) (flat_map comparisons_of bs) c k))
    (λ k. ⊎_elim (λ l. inl (has_right (comparisons_of b) (flat_map comparisons_of bs) c l)) (λ l. inr l) (flat_append bs cs c k))
    (has_append (comparisons_of b) (flat_map comparisons_of (bs ++ cs)) c h)

abbrev pub AreWithin : List FlowComparisonTree → List Edge → Type 0
AreWithin table es = (e : Edge) → Has es e → IsSubset (edge_comparisons e) table

module _ (sorts : List Sort) (table : List FlowComparisonTree) (x : CellTest) (there : Has table x.comparison) (e : Edge) (within : IsSubset (edge_comparisons e) table) where
  more_within : (bs : List FlowCondTree) → IsSubset (flat_map comparisons_of bs) table → IsSubset (flat_map comparisons_of (e.tests ++ bs)) table
  more_within bs k c h = ⊎_elim (λ l. within c l) (λ l. k c l) (flat_append e.tests bs c h)

  this_within : IsSubset (x.comparison ∷ []) table
  this_within c (inl q) = subst (Has table) q there
  this_within c (inr k) = absurd k

  none_within : IsSubset (flat_map comparisons_of []) table
  none_within c k = absurd k

  by_within : (o : Option Bool) → AreWithin table (edges_by sorts x e o)
  by_within None d (inl q) = subst (λ (g : Edge). IsSubset (edge_comparisons g) table) q (more_within (atom x.comparison ∷ []) this_within)
  by_within None d (inr (inl q)) = subst (λ (g : Edge). IsSubset (edge_comparisons g) table) q (more_within (negation (atom x.comparison) ∷ []) this_within)
  by_within None d (inr (inr k)) = absurd k
  by_within (Some true) d (inl q) = subst (λ (g : Edge). IsSubset (edge_comparisons g) table) q (more_within [] none_within)
  by_within (Some true) d (inr k) = absurd k
  by_within (Some false) d (inl q) = subst (λ (g : Edge). IsSubset (edge_comparisons g) table) q within
  by_within (Some false) d (inr k) = absurd k

  split_within : AreWithin table (split_edge sorts x e)
  split_within = by_test (action_reads x.cell e.action && action_fits sorts x e.action)
    where
      own : AreWithin table (e ∷ [])
      own d (inl q) = subst (λ (g : Edge). IsSubset (edge_comparisons g) table) q within
      own d (inr k) = absurd k

      by_test : (b : Bool) → AreWithin table (if b then edges_by sorts x e (value_known (facts_of_all e.tests) x.comparison) else e ∷ [])
      by_test true = by_within (value_known (facts_of_all e.tests) x.comparison)
      by_test false = own

flat_within : (table : List FlowComparisonTree) (make : Edge → List Edge) (es : List Edge) → ((e : Edge) → Has es e → AreWithin table (make e)) → AreWithin table (flat_map make es)
flat_within table make es each d h = let from = has_flat_map make es d h in each from.0 from.1 d from.2

pub split_all_within : (sorts : List Sort) (table : List FlowComparisonTree) (xs : List CellTest) (es : List Edge) → ((x : CellTest) → Has xs x → Has table x.comparison) → AreWithin table es → AreWithin table (split_edges sorts xs es)
split_all_within sorts table [] es there within = within
split_all_within sorts table (x ∷ xs) es there within =
    split_all_within sorts table xs (flat_map (split_edge sorts x) es) (λ y h. there y (inr h))
    (flat_within table (split_edge sorts x) es (λ e h. split_within sorts table x (there x (inl refl)) e (within e h)))

-- ---- the tests of cells among comparisons

pub cell_tests_are : (sorts : List Sort) (cs : List FlowComparisonTree) (x : CellTest) → Has (cell_tests sorts cs) x → (c : FlowComparisonTree) × IsTestOf sorts c x
cell_tests_are sorts cs x h = let from = has_flat_map (cell_test sorts) cs x h in (from.0, test_of_cell sorts from.0 x from.2)

pub cell_tests_there : (sorts : List Sort) (cs : List FlowComparisonTree) (x : CellTest) → Has (cell_tests sorts cs) x → Has cs x.comparison
cell_tests_there sorts cs x h =
    let from = has_flat_map (cell_test sorts) cs x h in
    subst (Has cs) (sym (test_of_cell sorts from.0 x from.2).comparison) from.1
