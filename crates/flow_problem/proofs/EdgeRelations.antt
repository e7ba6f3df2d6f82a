-- The term of an edge leads from a state in which its tests hold to the point that its action leads to.
use Rattle.std.proofs.Common.{◌≡◌, ℕ, inl, ◌↔◌, Bool, true, false, not, ◌&&◌, ◌||◌, nat_eq, List, [], ◌∷◌, ◌++◌, map, filter, flat_map, unwrap_or, Option, Some, None, slice_get, slice_index_or, option_map, if◌then◌else◌, refl, sym, ap, ◌∙◌, subst, arith}
use mathlib.Core.Path.{ap₂}
use Rattle.std.proofs.lemmas.Option.{slice_get-map, get_or_from_slice_get}
use Rattle.std.proofs.lemmas.Bool.{eqb-true}
use Rattle.std.proofs.lemmas.Bool.Decides.{nat_tests}
use Rattle.kat_model.specs.Trees.{Term, test, act}
use Rattle.kat_model.specs.Members.{Has, IsSubset}
use Rattle.kat_model.specs.Steps.{truth}
use Rattle.kat_model.specs.Relations.{RelatesIn, RelateInTurn}
use Rattle.kat_model.specs.Balanced.{sum_of}
use Rattle.kat_model.proofs.Lists.{has_left, has_right, has_map, map_has}
use Rattle.kat_model.proofs.Filters.{has_filter, filter_has}
use Rattle.kat_model.proofs.ProductRelations.{product_of_relations}
use Rattle.kat_model.proofs.BalancedSums.{sum_of_relations}
use Rattle.flow_model.specs.declared.sort.Sort.{Sort}
use Rattle.flow_model.specs.Sorts.{State, IsState}
use Rattle.flow_model.specs.Interpretations.{Interpretation}
use Rattle.flow_forms.specs.Forms.{FlowFormTree}
use Rattle.flow_forms.specs.Comparisons.{FlowComparisonTree, comparison_holds, is_same_comparison}
use Rattle.flow_ways.specs.Conditions.{FlowCondTree, constantly, atom, negation, both, either, cond_holds}
use Rattle.flow_ways.specs.Ways.{AllHold}
use Rattle.flow_ways.specs.Actions.{after_from}
use Rattle.kat_model.proofs.MemberPlaces.{position_of_member}
use Rattle.flow_problem.specs.Edges.{FlowActionTree, assigned, given, Edge, sets_nothing, is_idle, is_same_action}
use Rattle.flow_problem.specs.Points.{RunPoint, at, IsPoint, point_after, ActsAt, point_frame}
use Rattle.flow_problem.specs.EdgeTerms.{comparisons_of, edge_comparisons, row_number, test_of_cond, action_terms, edge_term, comes_to, is_end}
use Rattle.flow_forms.proofs.SameComparisons.{one_comparison, own_comparison}
use Rattle.flow_problem.proofs.SameActions.{one_action, own_action}

-- an action that changes nothing
pub after_none : (I : Interpretation) (s : State) (sorts : List Sort) (os : List (Option FlowFormTree)) (ns : State) → sets_nothing os ≡ true → after_from I s sorts os ns ≡ ns
after_none I s [] os ns e = refl
after_none I s (sort ∷ sorts) [] ns e = refl
after_none I s (sort ∷ sorts) (None ∷ os) [] e = refl
after_none I s (sort ∷ sorts) (None ∷ os) (n ∷ ns) e = ap (λ xs. n ∷ xs) (after_none I s sorts os ns e)
after_none I s (sort ∷ sorts) (Some f ∷ os) ns e = absurd cc

idle_stays : (I : Interpretation) (sorts : List Sort) (action : FlowActionTree) (s : State) → is_idle action ≡ true → point_after I sorts action s ≡ at s
idle_stays I sorts (assigned os) s e = ap at (after_none I s sorts os s e)
idle_stays I sorts (given []) s e = refl
idle_stays I sorts (given (r ∷ rs)) s e = absurd cc

-- a member is at its number
number_there : {X : Type 0} (same : X → X → Bool) (is : (x y : X) → same x y ≡ true → x ≡ y) (own : (x : X) → same x x ≡ true) (xs : List X) (x : X) → Has xs x → slice_get xs (row_number same xs x) ≡ Some x
number_there same is own xs x h =
    let p = position_of_member same is own xs x h in
    ap (λ o. slice_get xs (unwrap_or o 0)) p.1 ∙ p.2

pub test_there : (I : Interpretation) (s : State) (tests : List FlowComparisonTree) (k : ℕ) (c : FlowComparisonTree) → slice_get tests k ≡ Some c → slice_index_or (map (comparison_holds I s) tests) k false ≡ comparison_holds I s c
test_there I s tests k c e =
    get_or_from_slice_get (map (comparison_holds I s) tests) k (comparison_holds I s c) false
    (slice_get-map (comparison_holds I s) tests k ∙ ap (λ o. option_map (comparison_holds I s) o) e)

-- the comparisons and the action of an edge are in the tables
pub record IsListed (tests : List FlowComparisonTree) (actions : List FlowActionTree) (e : Edge) : Type 0 where
  pub tests_there : IsSubset (edge_comparisons e) tests
  pub action_there : is_idle e.action ≡ false → Has actions e.action

-- some edge of a list that passes a test leads from the state to the point
pub record Leads (I : Interpretation) (sorts : List Sort) (p : Edge → Bool) (es : List Edge) (s : State) (q : RunPoint) : Type 0 where
  pub edge : Edge
  pub has : Has es edge
  pub passes : p edge ≡ true
  pub tests_hold : AllHold I s edge.tests
  pub ends : q ≡ point_after I sorts edge.action s

module _ (I : Interpretation) (sorts : List Sort) (tests : List FlowComparisonTree) (actions : List FlowActionTree) where
  -- the test of a condition is true where the condition holds
  cond_truth : (s : State) (b : FlowCondTree) → IsSubset (comparisons_of b) tests → truth (test_of_cond tests b) (map (comparison_holds I s) tests) ≡ cond_holds I s b
  cond_truth s (constantly true) h = refl
  cond_truth s (constantly false) h = refl
  cond_truth s (atom c) h =
      test_there I s tests (row_number is_same_comparison tests c) c
      (number_there is_same_comparison one_comparison own_comparison tests c (h c (inl refl)))
  cond_truth s (negation b) h = ap not (cond_truth s b h)
  cond_truth s (both b c) h =
      ap₂ (λ x y. x && y)
      (cond_truth s b (λ d m. h d (has_left (comparisons_of b) (comparisons_of c) d m)))
      (cond_truth s c (λ d m. h d (has_right (comparisons_of b) (comparisons_of c) d m)))
  cond_truth s (either b c) h =
      ap₂ (λ x y. x || y)
      (cond_truth s b (λ d m. h d (has_left (comparisons_of b) (comparisons_of c) d m)))
      (cond_truth s c (λ d m. h d (has_right (comparisons_of b) (comparisons_of c) d m)))

  abbrev InTurn : List Term → RunPoint → RunPoint → Type 0
  InTurn es p q = RelateInTurn (point_frame I sorts tests actions) es p q

  abbrev Relates : Term → RunPoint → RunPoint → Type 0
  Relates e p q = RelatesIn (point_frame I sorts tests actions) e p q

  abbrev test_terms : List FlowCondTree → List Term
  test_terms bs = map (λ b. test (test_of_cond tests b)) bs

  -- tests in turn, then other terms
  first_in_turn : (b : FlowCondTree) (bs : List FlowCondTree) (es : List Term) (s : State) (q : RunPoint) → IsSubset (comparisons_of b) tests → IsState sorts s →
      InTurn (test_terms bs ++ es) (at s) q ↔ (AllHold I s bs × InTurn es (at s) q) → InTurn (test_terms (b ∷ bs) ++ es) (at s) q ↔ (AllHold I s (b ∷ bs) × InTurn es (at s) q)
  first_in_turn b bs es s q h ss later = (forth, back)
    where
      forth : InTurn (test_terms (b ∷ bs) ++ es) (at s) q → AllHold I s (b ∷ bs) × InTurn es (at s) q
      forth (k, sk, (e, t), r) =
          let on = later.0 (subst (λ x. InTurn (test_terms bs ++ es) x q) (sym e) r) in
          ((sym (cond_truth s b h) ∙ t, on.0), on.1)

      back : AllHold I s (b ∷ bs) × InTurn es (at s) q → InTurn (test_terms (b ∷ bs) ++ es) (at s) q
      back (all, r) = (at s, ss, (refl, cond_truth s b h ∙ all.0), later.1 (all.1, r))

  tests_in_turn : (bs : List FlowCondTree) (es : List Term) (s : State) (q : RunPoint) → IsSubset (flat_map comparisons_of bs) tests → IsState sorts s →
      InTurn (test_terms bs ++ es) (at s) q ↔ (AllHold I s bs × InTurn es (at s) q)
  tests_in_turn [] es s q h ss = ((λ r. (tt, r)), (λ r. r.1))
  tests_in_turn (b ∷ bs) es s q h ss =
      first_in_turn b bs es s q (λ d m. h d (has_left (comparisons_of b) (flat_map comparisons_of bs) d m)) ss
      (tests_in_turn bs es s q (λ d m. h d (has_right (comparisons_of b) (flat_map comparisons_of bs) d m)) ss)

  -- the action of an edge
  action_in_turn : (action : FlowActionTree) (s : State) (q : RunPoint) → (is_idle action ≡ false → Has actions action) → IsState sorts s → IsPoint sorts q →
      InTurn (action_terms actions action) (at s) q ↔ (q ≡ point_after I sorts action s)
  action_in_turn action s q has ss sq = by_test (is_idle action) refl
    where
      by_test : (b : Bool) → is_idle action ≡ b → InTurn (if b then [] else act (row_number is_same_action actions action) ∷ []) (at s) q ↔ (q ≡ point_after I sorts action s)
      by_test true e = ((λ r. sym r ∙ sym (idle_stays I sorts action s e)), (λ r. sym (r ∙ idle_stays I sorts action s e)))
      by_test false e =
          let there = number_there is_same_action one_action own_action actions action (has e) in (
            (λ r. sym r.3 ∙ subst (λ o. ActsAt I sorts o (at s) r.0) there r.2),
            (λ r. (q, sq, subst (λ o. ActsAt I sorts o (at s) q) (sym there) r, refl)),
          )

  pub edge_relates : (e : Edge) (s : State) (q : RunPoint) → IsListed tests actions e → IsState sorts s → IsPoint sorts q →
      Relates (edge_term tests actions e) (at s) q ↔ (AllHold I s e.tests × (q ≡ point_after I sorts e.action s))
  edge_relates e s q listed ss sq =
      let product = product_of_relations (point_frame I sorts tests actions) (test_terms e.tests ++ action_terms actions e.action) (at s) q ss sq in
      let turns = tests_in_turn e.tests (action_terms actions e.action) s q listed.tests_there ss in
      let action = action_in_turn e.action s q listed.action_there ss sq in (
        (λ r. let h = turns.0 (product.0 r) in (h.0, action.0 h.1)),
        (λ h. product.1 (turns.1 (h.0, action.1 h.1))),
      )

  pub edges_relate : (p : Edge → Bool) (es : List Edge) (s : State) (q : RunPoint) → ((e : Edge) → Has es e → IsListed tests actions e) → IsState sorts s → IsPoint sorts q →
      Relates (sum_of (map (edge_term tests actions) (filter p es))) (at s) q ↔ Leads I sorts p es s q
  edges_relate p es s q listed ss sq = (forth, back)
    where
      forth : Relates (sum_of (map (edge_term tests actions) (filter p es))) (at s) q → Leads I sorts p es s q
      forth r =
          let some = (sum_of_relations (point_frame I sorts tests actions) (at s) q (map (edge_term tests actions) (filter p es))).0 r in
          let from = has_map (edge_term tests actions) (filter p es) some.0 some.1 in
          let kept = has_filter p es from.0 from.1 in
          let h = (edge_relates from.0 s q (listed from.0 kept.0) ss sq).0 (subst (λ x. Relates x (at s) q) (sym from.2) some.2) in
          record { edge = from.0; has = kept.0; passes = kept.1; tests_hold = h.0; ends = h.1 }

      back : Leads I sorts p es s q → Relates (sum_of (map (edge_term tests actions) (filter p es))) (at s) q
      back l =
          (sum_of_relations (point_frame I sorts tests actions) (at s) q (map (edge_term tests actions) (filter p es))).1 (
            edge_term tests actions l.edge,
            map_has (edge_term tests actions) (filter p es) l.edge (filter_has p es l.edge l.has l.passes),
            (edge_relates l.edge s q (listed l.edge l.has) ss sq).1 (l.tests_hold, l.ends),
          )

target_is : (j : ℕ) (o : Option ℕ) → comes_to j o ≡ true → o ≡ Some j
target_is j None e = absurd cc
target_is j (Some l) e = ap Some (eqb-true l j e)

pub target_of : (j : ℕ) (e : Edge) → comes_to j e.target ≡ true → e.target ≡ Some j
target_of j e h = target_is j e.target h

pub targets : (j : ℕ) (o : Option ℕ) → o ≡ Some j → comes_to j o ≡ true
targets j o e = ap (comes_to j) e ∙ own
  where
    own : nat_eq j j ≡ true
    own = grind (arith, nat_tests)

end_is : (o : Option ℕ) → is_end o ≡ true → o ≡ None
end_is None e = refl
end_is (Some l) e = absurd cc

pub end_of : (e : Edge) → is_end e.target ≡ true → e.target ≡ None
end_of e h = end_is e.target h
