-- The hypotheses of a flow problem use only the numbers of its tests and actions.
use Rattle.std.proofs.Common.{◌≡◌, ℕ, ◌+◌, ◌<◌, ◌≤◌, Bool, true, false, ◌&&◌, nat_lt, List, [], ◌∷◌, ◌++◌, length, map, flat_map, Option, Some, None, if◌then◌else◌, refl, arith}
use Rattle.std.specs.List.{enumerate_from}
use Rattle.std.proofs.lemmas.List.Quantifiers.{position-Some}
use Rattle.kat_model.specs.Trees.{TestTree, prim, Term}
use Rattle.kat_model.specs.Problems.{IsTestInRange, IsInRange, AreInRange}
use Rattle.kat_model.specs.Stores.{modulus}
use Rattle.flow_model.specs.declared.sort.Sort.{Sort}
use Rattle.flow_forms.specs.Comparisons.{FlowComparisonTree, zero_form, less_form, same_form, FlowLiteralTree, decided, holding, failing, is_same_comparison}
use Rattle.flow_problem.specs.Edges.{FlowActionTree, assigned, given}
use Rattle.flow_problem.specs.Substitutions.{literal_after, prim_of, complement_of}
use Rattle.flow_problem.specs.FlowFacts.{FlowRule, FlowHypothesis, NumberedTest, NumberedAction, ends_in, ends_outside, keeps_test, keeps_prim, keeps_complement, keeps_if_known, action_facts, fact_where, never_both, order_fact, equality_fact, three_way_fact, next_number_fact, Arc, Interval, literal_test, two_arc_fact, two_arc_facts, pair_of_intervals, two_interval_fact, three_arc_fact, three_arc_facts, triple_of_intervals, three_interval_fact, interval_of, is_same_interval_form, for_pairs, for_triples, facts_between, flow_hypotheses}

-- the property holds of all members of a list
abbrev pub AllOf : {X : Type 0} → (X → Type 0) → List X → Type 0
AllOf P [] = Unit {0}
AllOf P (x ∷ xs) = P x × AllOf P xs

numbers_below : {X : Type 0} (n k : ℕ) (xs : List X) → n + length xs ≤ k → AllOf (λ r. r.0 < k) (enumerate_from n xs)
numbers_below n k [] h = tt
numbers_below n k (x ∷ xs) h = (omega arith, numbers_below (n + 1) k xs (omega arith))

module _ (t a : ℕ) where
  abbrev HypsIn : List FlowHypothesis → Type 0
  HypsIn [] = Unit {0}
  HypsIn (h ∷ hs) = IsInRange t a h.term × HypsIn hs

  terms_in : (hs : List FlowHypothesis) → HypsIn hs → AreInRange t a (map (λ h. h.term) hs)
  terms_in [] p = tt
  terms_in (h ∷ hs) p = (p.0, terms_in hs p.1)

  joined_in : (hs gs : List FlowHypothesis) → HypsIn hs → HypsIn gs → HypsIn (hs ++ gs)
  joined_in [] gs p q = q
  joined_in (h ∷ hs) gs p q = (p.0, joined_in hs gs p.1 q)

  flat_in : {X : Type 0} (P : X → Type 0) (make : X → List FlowHypothesis) → ((x : X) → P x → HypsIn (make x)) → (xs : List X) → AllOf P xs → HypsIn (flat_map make xs)
  flat_in P make each [] h = tt
  flat_in P make each (x ∷ xs) h = joined_in (make x) (flat_map make xs) (each x h.0) (flat_in P make each xs h.1)

  pairs_in : {X Y : Type 0} (P : X → Type 0) (Q : Y → Type 0) (make : X → Y → List FlowHypothesis) → ((x : X) (y : Y) → P x → Q y → HypsIn (make x y)) → (xs : List X) (ys : List Y) →
      AllOf P xs → AllOf Q ys → HypsIn (for_pairs make xs ys)
  pairs_in P Q make each xs ys p q = flat_in P (λ x. flat_map (make x) ys) (λ x px. flat_in Q (make x) (λ y qy. each x y px qy) ys q) xs p

  -- ---- assignments

  keeps_in : (i j : ℕ) (b : TestTree) → i < a → j < t → IsTestInRange t b → HypsIn (keeps_test i j b)
  keeps_in i j b p q h = ((h, (p, q)), ((h, (p, q)), tt))

  prim_in : (i j : ℕ) (o : Option ℕ) → i < a → j < t → ((k : ℕ) → o ≡ Some k → k < t) → HypsIn (keeps_prim i j o)
  prim_in i j None p q h = tt
  prim_in i j (Some k) p q h = keeps_in i j (prim k) p q (h k refl)

  complement_in : (i j : ℕ) (o : Option ℕ) → i < a → j < t → ((k : ℕ) → o ≡ Some k → k < t) → HypsIn (keeps_complement i j o)
  complement_in i j None p q h = tt
  complement_in i j (Some k) p q h = keeps_in i j (complement_of k) p q (h k refl)

  decided_in : (i j : ℕ) (b : Bool) → i < a → j < t → IsInRange t a (if b then ends_in i j else ends_outside i j)
  decided_in i j true p q = (p, q)
  decided_in i j false p q = (p, q)

  literal_in : (tests : List FlowComparisonTree) → length tests ≤ t → (i j : ℕ) (o : Option FlowLiteralTree) → i < a → j < t → HypsIn (keeps_if_known tests i j o)
  literal_in tests n i j None p q = tt
  literal_in tests n i j (Some (decided b)) p q = (decided_in i j b p q, tt)
  literal_in tests n i j (Some (holding c)) p q =
      prim_in i j (prim_of tests c) p q (λ k e. let below = (position-Some (is_same_comparison c) tests k c e).0 in omega (arith, below, n))
  literal_in tests n i j (Some (failing c)) p q =
      complement_in i j (prim_of tests c) p q (λ k e. let below = (position-Some (is_same_comparison c) tests k c e).0 in omega (arith, below, n))

  action_in : (sorts : List Sort) (tests : List FlowComparisonTree) → length tests ≤ t → (x : NumberedAction) (y : NumberedTest) → x.0 < a → y.0 < t → HypsIn (action_facts sorts tests x y)
  action_in sorts tests n (i, assigned os) (j, c) p q = literal_in tests n i j (literal_after sorts os c) p q
  action_in sorts tests n (i, given rs) (j, c) p q = tt

  -- ---- facts between tests

  where_in : (b : Bool) (r : FlowRule) (e : Term) → IsInRange t a e → HypsIn (fact_where b r e)
  where_in true r e h = (h, tt)
  where_in false r e h = tt

  order_in : (x y : NumberedTest) → x.0 < t → y.0 < t → HypsIn (order_fact x y)
  order_in (i, zero_form w f) (j, c) p q = tt
  order_in (i, same_form f g) (j, c) p q = tt
  order_in (i, less_form v d e) (j, zero_form w f) p q = tt
  order_in (i, less_form v d e) (j, same_form f g) p q = tt
  order_in (i, less_form v d e) (j, less_form w f g) p q = where_in _ _ (never_both i j) (p, q)

  equality_in : (x y : NumberedTest) → x.0 < t → y.0 < t → HypsIn (equality_fact x y)
  equality_in (i, zero_form w f) (j, c) p q = tt
  equality_in (i, same_form f g) (j, c) p q = tt
  equality_in (i, less_form w f g) (j, c) p q = where_in _ _ (never_both i j) (p, q)

  three_way_in : (x y z : NumberedTest) → x.0 < t → y.0 < t → z.0 < t → HypsIn (three_way_fact x y z)
  three_way_in (i, zero_form w f) (j, c) (k, d) p q r = tt
  three_way_in (i, same_form f g) (j, c) (k, d) p q r = tt
  three_way_in (i, less_form v d e) (j, zero_form w f) (k, c) p q r = tt
  three_way_in (i, less_form v d e) (j, same_form f g) (k, c) p q r = tt
  three_way_in (i, less_form v d e) (j, less_form w f g) (k, c) p q r = where_in _ _ _ (p, (q, r))

  next_number_in : (x y z : NumberedTest) → x.0 < t → y.0 < t → z.0 < t → HypsIn (next_number_fact x y z)
  next_number_in (i, zero_form w f) (j, c) (k, d) p q r = tt
  next_number_in (i, same_form f g) (j, c) (k, d) p q r = tt
  next_number_in (i, less_form w f g) (j, c) (k, d) p q r = where_in _ _ _ (p, (q, r))

  test_in : (k : ℕ) (b : Bool) → k < t → IsTestInRange t (literal_test k b)
  test_in k true p = p
  test_in k false p = p

  two_in : (m i j : ℕ) (x y : Arc) (b c : Bool) → i < t → j < t → HypsIn (two_arc_fact m i j x y b c)
  two_in m i j x y b c p q = where_in _ _ _ (test_in i b p, test_in j c q)

  two_arcs_in : (m i j : ℕ) (x y : Arc) → i < t → j < t → HypsIn (two_arc_facts m i j x y)
  two_arcs_in m i j x y p q =
      joined_in (two_arc_fact m i j x y true true ++ two_arc_fact m i j x y true false ++ two_arc_fact m i j x y false true) (two_arc_fact m i j x y false false)
      (joined_in (two_arc_fact m i j x y true true ++ two_arc_fact m i j x y true false) (two_arc_fact m i j x y false true)
      (joined_in (two_arc_fact m i j x y true true) (two_arc_fact m i j x y true false) (two_in m i j x y true true p q) (two_in m i j x y true false p q))
      (two_in m i j x y false true p q))
      (two_in m i j x y false false p q)

  chosen_in : (b : Bool) (hs : List FlowHypothesis) → HypsIn hs → HypsIn (if b then hs else [])
  chosen_in true hs h = h
  chosen_in false hs h = tt

  pair_in : (i j : ℕ) (x y : Option Interval) → i < t → j < t → HypsIn (pair_of_intervals i j x y)
  pair_in i j None y p q = tt
  pair_in i j (Some x) None p q = tt
  pair_in i j (Some x) (Some y) p q = chosen_in (is_same_interval_form x y) (two_arc_facts (modulus x.width) i j x.arc y.arc) (two_arcs_in (modulus x.width) i j x.arc y.arc p q)

  two_intervals_in : (x y : NumberedTest) → x.0 < t → y.0 < t → HypsIn (two_interval_fact x y)
  two_intervals_in (i, c) (j, d) p q = chosen_in (nat_lt i j) (pair_of_intervals i j (interval_of c) (interval_of d)) (pair_in i j (interval_of c) (interval_of d) p q)

  three_in : (m i j k : ℕ) (x y z : Arc) (b c d : Bool) → i < t → j < t → k < t → HypsIn (three_arc_fact m i j k x y z b c d)
  three_in m i j k x y z b c d p q r = where_in _ _ _ (test_in i b p, (test_in j c q, test_in k d r))

  three_arcs_in : (m i j k : ℕ) (x y z : Arc) → i < t → j < t → k < t → HypsIn (three_arc_facts m i j k x y z)
  three_arcs_in m i j k x y z p q r =
      let one : (b c d : Bool) → HypsIn (three_arc_fact m i j k x y z b c d) = λ b c d. three_in m i j k x y z b c d p q r in
      let f : Bool → Bool → Bool → List FlowHypothesis = λ b c d. three_arc_fact m i j k x y z b c d in
      let g2 = f true true true ++ f true true false in
      let g3 = g2 ++ f true false true in
      let g4 = g3 ++ f true false false in
      let g5 = g4 ++ f false true true in
      let g6 = g5 ++ f false true false in
      let g7 = g6 ++ f false false true in
      joined_in g7 (f false false false)
      (joined_in g6 (f false false true)
      (joined_in g5 (f false true false)
      (joined_in g4 (f false true true)
      (joined_in g3 (f true false false)
      (joined_in g2 (f true false true)
      (joined_in (f true true true) (f true true false) (one true true true) (one true true false))
      (one true false true)) (one true false false)) (one false true true)) (one false true false)) (one false false true)) (one false false false)

  triple_in : (i j k : ℕ) (x y z : Option Interval) → i < t → j < t → k < t → HypsIn (triple_of_intervals i j k x y z)
  triple_in i j k None y z p q r = tt
  triple_in i j k (Some x) None z p q r = tt
  triple_in i j k (Some x) (Some y) None p q r = tt
  triple_in i j k (Some x) (Some y) (Some z) p q r =
      chosen_in (is_same_interval_form x y && is_same_interval_form x z) (three_arc_facts (modulus x.width) i j k x.arc y.arc z.arc) (three_arcs_in (modulus x.width) i j k x.arc y.arc z.arc p q r)

  three_intervals_in : (x y z : NumberedTest) → x.0 < t → y.0 < t → z.0 < t → HypsIn (three_interval_fact x y z)
  three_intervals_in (i, c) (j, d) (k, e) p q r =
      chosen_in (nat_lt i j && nat_lt j k) (triple_of_intervals i j k (interval_of c) (interval_of d) (interval_of e)) (triple_in i j k (interval_of c) (interval_of d) (interval_of e) p q r)

  -- ---- all of them

  abbrev Below : NumberedTest → Type 0
  Below r = r.0 < t

  module _ (rows : List NumberedTest) (below : AllOf Below rows) where
    two_rows : (make : NumberedTest → NumberedTest → List FlowHypothesis) → ((x y : NumberedTest) → x.0 < t → y.0 < t → HypsIn (make x y)) → HypsIn (for_pairs make rows rows)
    two_rows make each = pairs_in Below Below make each rows rows below below

    three_rows : (make : NumberedTest → NumberedTest → NumberedTest → List FlowHypothesis) → ((x y z : NumberedTest) → x.0 < t → y.0 < t → z.0 < t → HypsIn (make x y z)) → HypsIn (for_triples make rows)
    three_rows make each = flat_in Below (λ x. for_pairs (make x) rows rows) (λ x p. two_rows (make x) (λ y z q r. each x y z p q r)) rows below

    facts_in : HypsIn (facts_between rows)
    facts_in =
        let a1 = for_pairs order_fact rows rows in
        let a2 = a1 ++ for_pairs equality_fact rows rows in
        let a3 = a2 ++ for_triples three_way_fact rows in
        let a4 = a3 ++ for_pairs two_interval_fact rows rows in
        let a5 = a4 ++ for_triples three_interval_fact rows in
        joined_in a5 (for_triples next_number_fact rows)
        (joined_in a4 (for_triples three_interval_fact rows)
        (joined_in a3 (for_pairs two_interval_fact rows rows)
        (joined_in a2 (for_triples three_way_fact rows)
        (joined_in a1 (for_pairs equality_fact rows rows) (two_rows order_fact order_in) (two_rows equality_fact equality_in))
        (three_rows three_way_fact three_way_in))
        (two_rows two_interval_fact two_intervals_in))
        (three_rows three_interval_fact three_intervals_in))
        (three_rows next_number_fact next_number_in)

pub hypotheses_in : (sorts : List Sort) (tests : List FlowComparisonTree) (actions : List FlowActionTree) → AreInRange (length tests) (length actions) (map (λ h. h.term) (flow_hypotheses sorts tests actions))
hypotheses_in sorts tests actions =
    let t = length tests in
    let a = length actions in
    let AB : NumberedAction → Type 0 = λ r. r.0 < a in
    let TB : NumberedTest → Type 0 = λ r. r.0 < t in
    let rows = numbers_below 0 t tests (omega arith) in
    terms_in t a (flow_hypotheses sorts tests actions)
    (joined_in t a (for_pairs (action_facts sorts tests) (enumerate_from 0 actions) (enumerate_from 0 tests)) (facts_between (enumerate_from 0 tests))
    (pairs_in t a AB TB (action_facts sorts tests) (action_in t a sorts tests (omega arith)) (enumerate_from 0 actions) (enumerate_from 0 tests) (numbers_below 0 a actions (omega arith)) rows)
    (facts_in t a (enumerate_from 0 tests) rows))
