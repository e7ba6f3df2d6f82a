-- The terms of a graph use only the numbers of the tests and actions of a problem.
use Rattle.std.proofs.Common.{◌≡◌, ℕ, zero, suc, ◌-◌, ◌<◌, inl, inr, Bool, true, false, List, [], ◌∷◌, ◌++◌, length, map, filter, flat_map, Option, Some, None, unwrap_or, cond, if◌then◌else◌, refl, arith}
use Rattle.std.specs.List.{position}
use Rattle.std.proofs.lemmas.List.Quantifiers.{position-Some}
use Rattle.kat_model.specs.Trees.{Term, zero as nought, one, test, act, sum, product, star}
use Rattle.kat_model.specs.Problems.{IsTestInRange, IsInRange, AreInRange}
use Rattle.kat_model.specs.Members.{Has, IsSubset}
use Rattle.kat_model.proofs.Lists.{has_left, has_right}
use Rattle.kat_model.proofs.Ranges.{AreInRange-append, IsInRange-sum_of, IsInRange-product_of}
use Rattle.flow_forms.specs.Comparisons.{FlowComparisonTree, is_same_comparison}
use Rattle.flow_ways.specs.Conditions.{FlowCondTree, constantly, atom, negation, both, either}
use Rattle.flow_problem.specs.Edges.{FlowActionTree, Edge, is_idle, is_same_action}
use Rattle.flow_problem.specs.EdgeTerms.{comparisons_of, row_number, test_of_cond, action_terms, edge_term, comes_to, is_end, step_term, end_term, place_block, graph_term}
use Rattle.flow_problem.proofs.EdgeRelations.{IsListed}
use Rattle.flow_places.specs.Elimination.{is_nought, is_unit, plus, times, repeated, around_place, steps_without, ends_without, eliminated}

-- a row that is not there counts as the first
pub row_below : {X : Type 0} (same : X → X → Bool) (xs : List X) (x : X) → 0 < length xs → row_number same xs x < length xs
row_below same xs x h = by_place (position (same x) xs) refl
  where
    by_place : (o : Option ℕ) → position (same x) xs ≡ o → unwrap_or o 0 < length xs
    by_place None e = h
    by_place (Some k) e = (position-Some (same x) xs k x e).0

module _ (tests : List FlowComparisonTree) (actions : List FlowActionTree) where
  abbrev In : Term → Type 0
  In e = IsInRange (length tests) (length actions) e

  abbrev AllIn : List Term → Type 0
  AllIn es = AreInRange (length tests) (length actions) es

  has_some : {X : Type 0} (xs : List X) (x : X) → Has xs x → 0 < length xs
  has_some [] x h = absurd h
  has_some (y ∷ ys) x h = omega arith

  test_in : (b : FlowCondTree) → IsSubset (comparisons_of b) tests → IsTestInRange (length tests) (test_of_cond tests b)
  test_in (constantly true) h = tt
  test_in (constantly false) h = tt
  test_in (atom c) h = row_below is_same_comparison tests c (has_some tests c (h c (inl refl)))
  test_in (negation b) h = test_in b h
  test_in (both b c) h =
      (test_in b (λ x k. h x (has_left (comparisons_of b) (comparisons_of c) x k)), test_in c (λ x k. h x (has_right (comparisons_of b) (comparisons_of c) x k)))
  test_in (either b c) h =
      (test_in b (λ x k. h x (has_left (comparisons_of b) (comparisons_of c) x k)), test_in c (λ x k. h x (has_right (comparisons_of b) (comparisons_of c) x k)))

  tests_in : (bs : List FlowCondTree) → IsSubset (flat_map comparisons_of bs) tests → AllIn (map (λ b. test (test_of_cond tests b)) bs)
  tests_in [] h = tt
  tests_in (b ∷ bs) h = (
    test_in b (λ x k. h x (has_left (comparisons_of b) (flat_map comparisons_of bs) x k)),
    tests_in bs (λ x k. h x (has_right (comparisons_of b) (flat_map comparisons_of bs) x k)),
  )

  action_in : (action : FlowActionTree) (idle : Bool) → (idle ≡ false → Has actions action) →
      AllIn (if idle then [] else act (row_number is_same_action actions action) ∷ [])
  action_in action true h = tt
  action_in action false h = (row_below is_same_action actions action (has_some actions action (h refl)), tt)

  edge_in : (e : Edge) → IsListed tests actions e → In (edge_term tests actions e)
  edge_in e h =
      IsInRange-product_of (length tests) (length actions) (map (λ b. test (test_of_cond tests b)) e.tests ++ action_terms actions e.action)
      (AreInRange-append (length tests) (length actions) (map (λ b. test (test_of_cond tests b)) e.tests) (action_terms actions e.action) (tests_in e.tests h.tests_there)
      (action_in e.action (is_idle e.action) h.action_there))

  abbrev pub AreListed : List Edge → Type 0
  AreListed es = (e : Edge) → Has es e → IsListed tests actions e

  some_in : (p : Edge → Bool) (es : List Edge) → AreListed es → AllIn (map (edge_term tests actions) (filter p es))
  some_in p [] h = tt
  some_in p (e ∷ es) h = by_test (p e) (some_in p es (λ d k. h d (inr k)))
    where
      by_test : (b : Bool) → AllIn (map (edge_term tests actions) (filter p es)) → AllIn (map (edge_term tests actions) (cond b (e ∷ filter p es) (filter p es)))
      by_test true rest = (edge_in e (h e (inl refl)), rest)
      by_test false rest = rest

  -- ---- elimination

  plus_in : (e f : Term) → In e → In f → In (plus e f)
  plus_in e f p q = by_tests (is_nought e) (is_nought f)
    where
      by_tests : (b c : Bool) → In (if b then f else if c then e else sum e f)
      by_tests true c = q
      by_tests false true = p
      by_tests false false = (p, q)

  times_in : (e f : Term) → In e → In f → In (times e f)
  times_in e f p q = by_tests (is_nought e) (is_nought f) (is_unit e) (is_unit f)
    where
      by_tests : (a b c d : Bool) → In (if a then nought else if b then nought else if c then f else if d then e else product e f)
      by_tests true b c d = tt
      by_tests false true c d = tt
      by_tests false false true d = q
      by_tests false false false true = p
      by_tests false false false false = (p, q)

  repeated_in : (e : Term) → In e → In (repeated e)
  repeated_in e p = by_test (is_nought e)
    where
      by_test : (b : Bool) → In (if b then one else star e)
      by_test true = tt
      by_test false = p

  around_in : (steps : ℕ → ℕ → Term) (k i : ℕ) (rest : Term) → ((i j : ℕ) → In (steps i j)) → In rest → In (around_place steps k i rest)
  around_in steps k i rest h r =
      times_in (steps i k) (times (repeated (steps k k)) rest) (h i k)
      (times_in (repeated (steps k k)) rest (repeated_in (steps k k) (h k k)) r)

  eliminated_in : (k : ℕ) (steps : ℕ → ℕ → Term) (ends : ℕ → Term) → ((i j : ℕ) → In (steps i j)) → ((i : ℕ) → In (ends i)) → In (eliminated k steps ends)
  eliminated_in zero steps ends h g = times_in (repeated (steps 0 0)) (ends 0) (repeated_in (steps 0 0) (h 0 0)) (g 0)
  eliminated_in (suc k) steps ends h g =
      eliminated_in k (steps_without steps (suc k)) (ends_without steps ends (suc k))
      (λ i j. plus_in (steps i j) (around_place steps (suc k) i (steps (suc k) j)) (h i j) (around_in steps (suc k) i (steps (suc k) j) h (h (suc k) j)))
      (λ i. plus_in (ends i) (around_place steps (suc k) i (ends (suc k))) (g i) (around_in steps (suc k) i (ends (suc k)) h (g (suc k))))

  pub graph_in : (places : List ℕ) (edges : ℕ → List Edge) → ((i : ℕ) → AreListed (edges (place_block places i))) → In (graph_term tests actions places edges)
  graph_in places edges h =
      eliminated_in (length places - 1)
      (λ i j. step_term tests actions edges (place_block places i) (place_block places j))
      (λ i. end_term tests actions edges (place_block places i))
      (λ i j. IsInRange-sum_of (length tests) (length actions) (map (edge_term tests actions) (filter (λ e. comes_to (place_block places j) e.target) (edges (place_block places i)))) (some_in (λ e. comes_to (place_block places j) e.target) (edges (place_block places i)) (h i)))
      (λ i. IsInRange-sum_of (length tests) (length actions) (map (edge_term tests actions) (filter (λ e. is_end e.target) (edges (place_block places i)))) (some_in (λ e. is_end e.target) (edges (place_block places i)) (h i)))
