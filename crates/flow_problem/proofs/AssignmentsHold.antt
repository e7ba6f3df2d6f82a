-- The hypotheses of assignments relate no states.
use Rattle.std.proofs.Common.{◌≡◌, ℕ, ◌⊎◌, inl, inr, Bool, true, false, not, IsTrue, List, [], ◌∷◌, ◌++◌, map, Option, Some, None, slice_get, slice_index_or, get_or, if◌then◌else◌, refl, sym, ◌∙◌, ap, subst}
use Rattle.std.proofs.lemmas.Bool.{not-true, both_ways}
use Rattle.std.proofs.lemmas.Option.{slice_get-get_or}
use Rattle.std.proofs.lemmas.List.Quantifiers.{position-Some}
use Rattle.kat_model.specs.Trees.{TestTree, prim, complement, Term, test, act, product}
use Rattle.kat_model.specs.Members.{Has}
use Rattle.kat_model.specs.Steps.{truth}
use Rattle.kat_model.proofs.Lists.{has_append}
use Rattle.kat_model.specs.Relations.{Frame}
use Rattle.flow_model.specs.declared.sort.Sort.{Sort}
use Rattle.flow_model.specs.Sorts.{State, IsState}
use Rattle.flow_model.specs.Interpretations.{Interpretation}
use Rattle.flow_forms.specs.Forms.{FlowFormTree}
use Rattle.flow_forms.specs.Comparisons.{FlowComparisonTree, FlowLiteralTree, decided, holding, failing, comparison_holds, literal_holds, is_same_comparison}
use Rattle.flow_ways.specs.Actions.{after_action}
use Rattle.kat_model.proofs.RelatesNothing.{RelatesNone, around_action}
use Rattle.flow_problem.specs.Edges.{FlowActionTree, assigned, given}
use Rattle.flow_problem.specs.Points.{RunPoint, at, ended, numbers_at, IsPoint, ActsAt, point_frame}
use Rattle.flow_problem.specs.Substitutions.{literal_after, prim_of, complement_of}
use Rattle.flow_problem.specs.FlowFacts.{FlowRule, by_assignment, FlowHypothesis, NumberedTest, NumberedAction, ends_in, ends_outside, keeps_test, keeps_prim, keeps_complement, keeps_literal, keeps_if_known, action_facts}
use Rattle.flow_forms.proofs.SameComparisons.{one_comparison}
use Rattle.flow_problem.proofs.EdgeRelations.{test_there}
use Rattle.flow_problem.proofs.AssignedValues.{holds-literal_after}

-- the test with the number of a comparison is true where the comparison holds
pub prim_truth : (I : Interpretation) (s : State) (tests : List FlowComparisonTree) (c : FlowComparisonTree) (k : ℕ) → prim_of tests c ≡ Some k →
    slice_index_or (map (comparison_holds I s) tests) k false ≡ comparison_holds I s c
prim_truth I s tests c k e =
    let found = position-Some (is_same_comparison c) tests k c e in
    test_there I s tests k (get_or tests k c) (slice_get-get_or tests k c found.0)
    ∙ ap (comparison_holds I s) (sym (one_comparison c (get_or tests k c) found.1))

module _ (I : Interpretation) (sorts : List Sort) (tests : List FlowComparisonTree) (actions : List FlowActionTree) where
  abbrev frame : Frame RunPoint
  frame = point_frame I sorts tests actions

  abbrev truths : State → List Bool
  truths s = map (comparison_holds I s) tests

  -- each hypothesis of a list relates no states
  abbrev pub Hold : List FlowHypothesis → Type 0
  Hold hs = (h : FlowHypothesis) → Has hs h → RelatesNone frame h.term

  pub hold_none : Hold []
  hold_none h m = absurd m

  pub hold_first : (h : FlowHypothesis) (hs : List FlowHypothesis) → RelatesNone frame h.term → Hold hs → Hold (h ∷ hs)
  hold_first h hs first rest x (inl e) = subst (λ (y : FlowHypothesis). RelatesNone frame y.term) e first
  hold_first h hs first rest x (inr m) = rest x m

  pub hold_both : (hs gs : List FlowHypothesis) → Hold hs → Hold gs → Hold (hs ++ gs)
  hold_both hs gs p q x m = by_part (has_append hs gs x m)
    where
      by_part : Has hs x ⊎ Has gs x → RelatesNone frame x.term
      by_part (inl a) = p x a
      by_part (inr b) = q x b

  -- a list of one, and of two
  pub one_holds : (rule : FlowRule) (e : Term) → RelatesNone frame e → Hold (record { rule = rule; term = e } ∷ [])
  one_holds rule e n = hold_first (record { rule = rule; term = e }) [] n hold_none

  two_hold : (rule : FlowRule) (e f : Term) → RelatesNone frame e → RelatesNone frame f → Hold (record { rule = rule; term = e } ∷ record { rule = rule; term = f } ∷ [])
  two_hold rule e f m n = hold_first (record { rule = rule; term = e }) (record { rule = rule; term = f } ∷ []) m (one_holds rule f n)

  -- an action, then a test
  then_test : (a : ℕ) (c : TestTree) → ((p q : RunPoint) → IsPoint sorts p → frame.Acts a p q → IsTrue (truth c (frame.atom q)) → ⊥) → RelatesNone frame (product (act a) (test c))
  then_test a c never p q ip iq (r, ir, acts, (e, t)) = never p r ip acts t

  module _ (i j : ℕ) (os : List (Option FlowFormTree)) (c : FlowComparisonTree) (action : slice_get actions i ≡ Some (assigned os)) (row : slice_get tests j ≡ Some c) where
    abbrev after : State → State
    after s = after_action I s sorts os

    -- after the action, test j is true where the comparison holds
    after_truth : (s : State) (q : RunPoint) → ActsAt I sorts (slice_get actions i) (at s) q → slice_index_or (truths (numbers_at q)) j false ≡ comparison_holds I (after s) c
    after_truth s q acts =
        let e : q ≡ at (after s) = subst (λ o. ActsAt I sorts o (at s) q) action acts in
        test_there I (numbers_at q) tests j c row ∙ ap (λ x. comparison_holds I (numbers_at x) c) e

    no_start : (vs : List ℕ) (q : RunPoint) → ActsAt I sorts (slice_get actions i) (ended vs) q → ⊥
    no_start vs q acts = subst (λ o. ActsAt I sorts o (ended vs) q) action acts

    -- the test says before the action what the comparison says after it
    abbrev Represents : TestTree → Type 0
    Represents b = (s : State) → IsState sorts s → truth b (truths s) ≡ comparison_holds I (after s) c

    outside : (b : TestTree) → Represents b → RelatesNone frame (product (test b) (ends_in i j))
    outside b gives = around_action frame b (complement (prim j)) i never
      where
        never : (p q : RunPoint) → IsPoint sorts p → IsTrue (truth b (truths (numbers_at p))) → ActsAt I sorts (slice_get actions i) p q → IsTrue (truth (complement (prim j)) (truths (numbers_at q))) → ⊥
        never (at s) q is t acts u =
            both_ways (comparison_holds I (after s) c) (sym (after_truth s q acts) ∙ not-true (slice_index_or (truths (numbers_at q)) j false) u) (sym (gives s is) ∙ t)
        never (ended vs) q is t acts u = no_start vs q acts

    inside : (b : TestTree) → Represents b → RelatesNone frame (product (test (complement b)) (ends_outside i j))
    inside b gives = around_action frame (complement b) (prim j) i never
      where
        never : (p q : RunPoint) → IsPoint sorts p → IsTrue (truth (complement b) (truths (numbers_at p))) → ActsAt I sorts (slice_get actions i) p q → IsTrue (truth (prim j) (truths (numbers_at q))) → ⊥
        never (at s) q is t acts u =
            both_ways (comparison_holds I (after s) c) (sym (gives s is) ∙ not-true (truth b (truths s)) t) (sym (after_truth s q acts) ∙ u)
        never (ended vs) q is t acts u = no_start vs q acts

    both_hold : (b : TestTree) → Represents b → Hold (keeps_test i j b)
    both_hold b gives =
        two_hold (by_assignment i j) (product (test b) (ends_in i j)) (product (test (complement b)) (ends_outside i j)) (outside b gives) (inside b gives)

    -- a comparison that is decided after the action
    decided_holds : (b : Bool) → ((s : State) → IsState sorts s → b ≡ comparison_holds I (after s) c) → RelatesNone frame (if b then ends_in i j else ends_outside i j)
    decided_holds true gives = then_test i (complement (prim j)) never
      where
        never : (p q : RunPoint) → IsPoint sorts p → ActsAt I sorts (slice_get actions i) p q → IsTrue (truth (complement (prim j)) (truths (numbers_at q))) → ⊥
        never (at s) q is acts u = both_ways (comparison_holds I (after s) c) (sym (after_truth s q acts) ∙ not-true (slice_index_or (truths (numbers_at q)) j false) u) (sym (gives s is))
        never (ended vs) q is acts u = no_start vs q acts
    decided_holds false gives = then_test i (prim j) never
      where
        never : (p q : RunPoint) → IsPoint sorts p → ActsAt I sorts (slice_get actions i) p q → IsTrue (truth (prim j) (truths (numbers_at q))) → ⊥
        never (at s) q is acts u = both_ways (comparison_holds I (after s) c) (sym (gives s is)) (sym (after_truth s q acts) ∙ u)
        never (ended vs) q is acts u = no_start vs q acts

    prim_holds : (d : FlowComparisonTree) → ((s : State) → IsState sorts s → comparison_holds I s d ≡ comparison_holds I (after s) c) → (o : Option ℕ) → prim_of tests d ≡ o → Hold (keeps_prim i j o)
    prim_holds d gives None e = hold_none
    prim_holds d gives (Some k) e = both_hold (prim k) (λ s is. prim_truth I s tests d k e ∙ gives s is)

    complement_holds : (d : FlowComparisonTree) → ((s : State) → IsState sorts s → not (comparison_holds I s d) ≡ comparison_holds I (after s) c) → (o : Option ℕ) → prim_of tests d ≡ o → Hold (keeps_complement i j o)
    complement_holds d gives None e = hold_none
    complement_holds d gives (Some k) e = both_hold (complement_of k) (λ s is. ap not (prim_truth I s tests d k e) ∙ gives s is)

    literal_hold : (l : FlowLiteralTree) → ((s : State) → IsState sorts s → literal_holds I s l ≡ comparison_holds I (after s) c) → Hold (keeps_literal tests i j l)
    literal_hold (decided b) gives = one_holds (by_assignment i j) (if b then ends_in i j else ends_outside i j) (decided_holds b gives)
    literal_hold (holding d) gives = prim_holds d gives (prim_of tests d) refl
    literal_hold (failing d) gives = complement_holds d gives (prim_of tests d) refl

    known_hold : (o : Option FlowLiteralTree) → literal_after sorts os c ≡ o → Hold (keeps_if_known tests i j o)
    known_hold None e = hold_none
    known_hold (Some l) e = literal_hold l (λ s is. holds-literal_after I s sorts os c l is e)

  pub action_facts_hold : (a : NumberedAction) (b : NumberedTest) → slice_get actions a.0 ≡ Some a.1 → slice_get tests b.0 ≡ Some b.1 → Hold (action_facts sorts tests a b)
  action_facts_hold (i, assigned os) (j, c) action row = known_hold i j os c action row (literal_after sorts os c) refl
  action_facts_hold (i, given results) (j, c) action row = hold_none
