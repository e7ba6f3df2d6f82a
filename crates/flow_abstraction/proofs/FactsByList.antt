-- The facts between tests are those that are computed first test by first test.
use Rattle.std.proofs.Common.{◌≡◌, ℕ, ◌+◌, Bool, true, false, ◌&&◌, cond, nat_lt, List, [], ◌∷◌, ◌++◌, map, Option, Some, None, refl, sym, ap, ◌∙◌, append_assoc}
use mathlib.Core.Path.{ap₂}
use Rattle.std.specs.List.{flat_map, enumerate_from}
use Rattle.kat_model.specs.Stores.{modulus}
use Rattle.kat_model.specs.Trees.{prim}
use Rattle.kat_model.specs.declared.expression.Width.{Width}
use Rattle.kat_model.specs.declared.expression.Rel.TheVariants.{Eq, Lt}
use Rattle.flow_forms.specs.Forms.{FlowFormTree, constant}
use Rattle.flow_forms.specs.Arithmetic.{form_sum}
use Rattle.flow_forms.specs.Comparisons.{FlowComparisonTree, zero_form, less_form, same_form, FlowLiteralTree, compared_numbers}
use Rattle.flow_problem.specs.Substitutions.{complement_of}
use Rattle.flow_problem.specs.FlowFacts.{FlowHypothesis, by_three_ways, by_next_number, none_of_three, Arc, Interval, NumberedTest, fact_where, is_comparison, denotes_equal, denotes_less, order_fact, equality_fact, three_way_fact, next_number_fact, is_same_interval_form, interval_of, pair_of_intervals, triple_of_intervals, two_arc_facts, three_arc_fact, three_arc_facts, for_pairs, facts_between}
use Rattle.flow_abstraction.specs.CappedLists.{capped}
use Rattle.flow_abstraction.specs.Completions.{completed_fact}
use Rattle.flow_abstraction.specs.declared.completion.Pending.TheVariants as pending
use Rattle.flow_abstraction.specs.declared.interval.interval_facts.IntervalCount.TheVariants.{Two, Three}
use Rattle.flow_abstraction.specs.FactLists.{NumberedInterval, converse, order_fact_by, equalities, third_ways, three_ways, next_numbers_at, next_numbers, signed_arc_facts, third_interval, interval_facts_with, interval_facts, facts_by_list}
use Rattle.flow_abstraction.proofs.CappedHypotheses.{capped_then}

-- ---- lists

module _ {X Y : Type 0} where
  pub flat_map_same : (f g : X → List Y) → ((x : X) → f x ≡ g x) → (xs : List X) → flat_map f xs ≡ flat_map g xs
  flat_map_same f g e [] = refl
  flat_map_same f g e (x ∷ xs) = ap₂ (λ ys zs. ys ++ zs) (e x) (flat_map_same f g e xs)

  pub flat_map_none : (xs : List X) → flat_map (λ x. let none : List Y = [] in none) xs ≡ []
  flat_map_none [] = refl
  flat_map_none (x ∷ xs) = flat_map_none xs

  -- what is made of no element is nothing
  flat_map_nothing : (f : X → List Y) → ((x : X) → f x ≡ []) → (xs : List X) → flat_map f xs ≡ []
  flat_map_nothing f e [] = refl
  flat_map_nothing f e (x ∷ xs) = ap₂ (λ ys zs. ys ++ zs) (e x) (flat_map_nothing f e xs)

-- the numbers stay where the elements are replaced
flat_map_enumerated : {X Y Z : Type 0} (f : X → Y) (g : ℕ × Y → List Z) (n : ℕ) (xs : List X) → flat_map (λ (p : ℕ × X). g (p.0, f p.1)) (enumerate_from n xs) ≡ flat_map g (enumerate_from n (map f xs))
flat_map_enumerated f g n [] = refl
flat_map_enumerated f g n (x ∷ xs) = ap (λ zs. g (n, f x) ++ zs) (flat_map_enumerated f g (n + 1) xs)

-- ---- F2, F3, F6 and F10

order_by : (a b : NumberedTest) → order_fact a b ≡ order_fact_by a b
order_by (i, zero_form v d) b = refl
order_by (i, less_form v d e) (j, zero_form w f) = refl
order_by (i, less_form v d e) (j, less_form w f g) = refl
order_by (i, less_form v d e) (j, same_form f g) = refl
order_by (i, same_form d e) b = refl

equality_by : (rows : List NumberedTest) (a : NumberedTest) → flat_map (equality_fact a) rows ≡ equalities rows a
equality_by rows (i, zero_form w f) = flat_map_none rows
equality_by rows (i, less_form w f g) = refl
equality_by rows (i, same_form f g) = flat_map_none rows

turned_third : (b : Bool) (rows : List NumberedTest) (i j : ℕ) (w : Width) (f g : FlowFormTree) →
    flat_map (λ (p : NumberedTest). fact_where (b && denotes_equal w f g p.1) (by_three_ways i j p.0) (none_of_three (complement_of i) (complement_of j) (complement_of p.0))) rows ≡ cond b (third_ways rows i j (less_form w f g)) []
turned_third true rows i j w f g = refl
turned_third false rows i j w f g = flat_map_none rows

three_ways_by : (rows : List NumberedTest) (a b : NumberedTest) → flat_map (three_way_fact a b) rows ≡ three_ways rows a b
three_ways_by rows (i, zero_form v d) b = flat_map_none rows
three_ways_by rows (i, less_form v d e) (j, zero_form w f) = flat_map_none rows
three_ways_by rows (i, less_form v d e) (j, less_form w f g) = turned_third (converse (i, less_form v d e) (j, less_form w f g)) rows i j w f g
three_ways_by rows (i, less_form v d e) (j, same_form f g) = flat_map_none rows
three_ways_by rows (i, same_form d e) b = flat_map_none rows

module _ (rows : List NumberedTest) (i : ℕ) (less same : FlowLiteralTree) where
  by_second : (b : Bool) (j : ℕ) →
      flat_map (λ (p : NumberedTest). fact_where (b && is_comparison same p.1) (by_next_number i j p.0) (none_of_three (prim i) (complement_of j) (complement_of p.0))) rows ≡ cond b (flat_map (completed_fact (pending.NextNumber i j) same) rows) []
  by_second true j = refl
  by_second false j = flat_map_none rows

next_by : (rows : List NumberedTest) (a : NumberedTest) → for_pairs (next_number_fact a) rows rows ≡ next_numbers rows a
next_by rows (i, zero_form w f) = flat_map_nothing (λ (b : NumberedTest). flat_map (next_number_fact (i, zero_form w f) b) rows) (λ b. flat_map_none rows) rows
next_by rows (i, less_form w f g) =
    let next = form_sum (modulus w) f (constant 1) in
    flat_map_same
    (λ (b : NumberedTest). flat_map (next_number_fact (i, less_form w f g) b) rows)
    (next_numbers_at rows i (compared_numbers w Lt next g) (compared_numbers w Eq next g))
    (λ b. by_second rows i (compared_numbers w Lt next g) (compared_numbers w Eq next g) (denotes_less w next g b.1) b.0)
    rows
next_by rows (i, same_form f g) = flat_map_nothing (λ (b : NumberedTest). flat_map (next_number_fact (i, same_form f g) b) rows) (λ b. flat_map_none rows) rows

-- ---- F9

module _ (tests : List FlowComparisonTree) where
  abbrev rows : List NumberedTest
  rows = enumerate_from 0 tests

  abbrev intervals : List NumberedInterval
  intervals = enumerate_from 0 (map interval_of tests)

  of_intervals : (make : NumberedInterval → List FlowHypothesis) → flat_map (λ (p : NumberedTest). make (p.0, interval_of p.1)) rows ≡ flat_map make intervals
  of_intervals make = flat_map_enumerated interval_of make 0 tests

  of_pairs : (make : NumberedInterval → NumberedInterval → List FlowHypothesis) →
      flat_map (λ (p : NumberedTest). flat_map (λ (q : NumberedTest). make (p.0, interval_of p.1) (q.0, interval_of q.1)) rows) rows
      ≡ flat_map (λ a. flat_map (make a) intervals) intervals
  of_pairs make =
      flat_map_same
      (λ (p : NumberedTest). flat_map (λ (q : NumberedTest). make (p.0, interval_of p.1) (q.0, interval_of q.1)) rows)
      (λ (p : NumberedTest). flat_map (make (p.0, interval_of p.1)) intervals)
      (λ p. of_intervals (make (p.0, interval_of p.1)))
      rows
      ∙ of_intervals (λ a. flat_map (make a) intervals)

  of_triples : (make : NumberedInterval → NumberedInterval → NumberedInterval → List FlowHypothesis) →
      flat_map (λ (p : NumberedTest). flat_map (λ (q : NumberedTest). flat_map (λ (r : NumberedTest). make (p.0, interval_of p.1) (q.0, interval_of q.1) (r.0, interval_of r.1)) rows) rows) rows
      ≡ flat_map (λ a. flat_map (λ b. flat_map (make a b) intervals) intervals) intervals
  of_triples make =
      flat_map_same
      (λ (p : NumberedTest). flat_map (λ (q : NumberedTest). flat_map (λ (r : NumberedTest). make (p.0, interval_of p.1) (q.0, interval_of q.1) (r.0, interval_of r.1)) rows) rows)
      (λ (p : NumberedTest). flat_map (λ (q : NumberedTest). flat_map (make (p.0, interval_of p.1) (q.0, interval_of q.1)) intervals) rows)
      (λ p.
      flat_map_same
      (λ (q : NumberedTest). flat_map (λ (r : NumberedTest). make (p.0, interval_of p.1) (q.0, interval_of q.1) (r.0, interval_of r.1)) rows)
      (λ (q : NumberedTest). flat_map (make (p.0, interval_of p.1) (q.0, interval_of q.1)) intervals)
      (λ q. of_intervals (make (p.0, interval_of p.1) (q.0, interval_of q.1)))
      rows)
      rows
      ∙ of_pairs (λ a b. flat_map (make a b) intervals)

nothing_if : (b : Bool) → cond b (let none : List FlowHypothesis = [] in none) [] ≡ []
nothing_if true = refl
nothing_if false = refl

if_both : (b c : Bool) (xs : List FlowHypothesis) → cond b (cond c xs []) [] ≡ cond (b && c) xs []
if_both true c xs = refl
if_both false c xs = refl

-- facts of two and of three tests by their intervals
abbrev pair_fact : NumberedInterval → NumberedInterval → List FlowHypothesis
pair_fact a b = cond (nat_lt a.0 b.0) (pair_of_intervals a.0 b.0 a.1 b.1) []

abbrev triple_fact : NumberedInterval → NumberedInterval → NumberedInterval → List FlowHypothesis
triple_fact a b c = cond (nat_lt a.0 b.0 && nat_lt b.0 c.0) (triple_of_intervals a.0 b.0 c.0 a.1 b.1 c.1) []

module _ (os : List NumberedInterval) where
  two_with : (i : ℕ) (a : Interval) (b : NumberedInterval) → pair_fact (i, Some a) b ≡ interval_facts_with Two os i a b
  two_with i a (j, None) = nothing_if (nat_lt i j)
  two_with i a (j, Some b) = if_both (nat_lt i j) (is_same_interval_form a b) (two_arc_facts (modulus a.width) i j a.arc b.arc)

  two_by : (a : NumberedInterval) → flat_map (pair_fact a) os ≡ interval_facts Two os a
  two_by (i, None) = flat_map_nothing (pair_fact (i, None)) (λ b. nothing_if (nat_lt i b.0)) os
  two_by (i, Some a) = flat_map_same (pair_fact (i, Some a)) (interval_facts_with Two os i a) (two_with i a) os

  module _ (i j : ℕ) (a b : Interval) where
    -- the facts of three tests, if the forms of the first two are one
    abbrev third_if : Bool → NumberedInterval → List FlowHypothesis
    third_if same (k, None) = []
    third_if same (k, Some c) = cond (same && is_same_interval_form a c) (three_arc_facts (modulus a.width) i j k a.arc b.arc c.arc) []

    third_is : (c : NumberedInterval) → triple_of_intervals i j c.0 (Some a) (Some b) c.1 ≡ third_if (is_same_interval_form a b) c
    third_is (k, None) = refl
    third_is (k, Some c) = refl

    later_third : (c : NumberedInterval) → cond (nat_lt j c.0) (third_if true c) [] ≡ third_interval i j a b c
    later_third (k, None) = nothing_if (nat_lt j k)
    later_third (k, Some c) = if_both (nat_lt j k) (is_same_interval_form a c) (three_arc_facts (modulus a.width) i j k a.arc b.arc c.arc)

    no_third : (c : NumberedInterval) → cond (nat_lt j c.0) (third_if false c) [] ≡ []
    no_third (k, None) = nothing_if (nat_lt j k)
    no_third (k, Some c) = nothing_if (nat_lt j k)

    thirds_by : (p q : Bool) → flat_map (λ (c : NumberedInterval). cond (p && nat_lt j c.0) (third_if q c) []) os ≡ cond (p && q) (flat_map (third_interval i j a b) os) []
    thirds_by true true = flat_map_same (λ (c : NumberedInterval). cond (nat_lt j c.0) (third_if true c) []) (third_interval i j a b) later_third os
    thirds_by true false = flat_map_nothing (λ (c : NumberedInterval). cond (nat_lt j c.0) (third_if false c) []) no_third os
    thirds_by false q = flat_map_nothing (λ (c : NumberedInterval). let none : List FlowHypothesis = [] in none) (λ c. refl) os

    three_with_both : flat_map (triple_fact (i, Some a) (j, Some b)) os ≡ interval_facts_with Three os i a (j, Some b)
    three_with_both =
        flat_map_same (triple_fact (i, Some a) (j, Some b))
        (λ (c : NumberedInterval). cond (nat_lt i j && nat_lt j c.0) (third_if (is_same_interval_form a b) c) [])
        (λ c. ap (λ xs. cond (nat_lt i j && nat_lt j c.0) xs []) (third_is c))
        os
        ∙ thirds_by (nat_lt i j) (is_same_interval_form a b)

  three_with : (i : ℕ) (a : Interval) (b : NumberedInterval) → flat_map (triple_fact (i, Some a) b) os ≡ interval_facts_with Three os i a b
  three_with i a (j, None) = flat_map_nothing (triple_fact (i, Some a) (j, None)) (λ c. nothing_if (nat_lt i j && nat_lt j c.0)) os
  three_with i a (j, Some b) = three_with_both i j a b

  three_by : (a : NumberedInterval) → flat_map (λ b. flat_map (triple_fact a b) os) os ≡ interval_facts Three os a
  three_by (i, None) =
      flat_map_nothing (λ (b : NumberedInterval). flat_map (triple_fact (i, None) b) os)
      (λ b. flat_map_nothing (triple_fact (i, None) b) (λ c. nothing_if (nat_lt i b.0 && nat_lt b.0 c.0)) os)
      os
  three_by (i, Some a) = flat_map_same (λ (b : NumberedInterval). flat_map (triple_fact (i, Some a) b) os) (interval_facts_with Three os i a) (three_with i a) os

-- ---- all facts

six_joined : (a b c d e f p q r s t u : List FlowHypothesis) → a ≡ p → b ≡ q → c ≡ r → d ≡ s → e ≡ t → f ≡ u → (a ++ b ++ c ++ d ++ e ++ f) ≡ (p ++ q ++ r ++ s ++ t ++ u)
six_joined a b c d e f p q r s t u h1 h2 h3 h4 h5 h6 = rw (h1, h2, h3, h4, h5, h6) refl

pub facts_are_by_list : (tests : List FlowComparisonTree) → facts_between (enumerate_from 0 tests) ≡ facts_by_list (enumerate_from 0 tests) (enumerate_from 0 (map interval_of tests))
facts_are_by_list tests =
    let rs = enumerate_from 0 tests in
    let os = enumerate_from 0 (map interval_of tests) in
    six_joined _ _ _ _ _ _ _ _ _ _ _ _
    (flat_map_same (λ (a : NumberedTest). flat_map (order_fact a) rs) (λ (a : NumberedTest). flat_map (order_fact_by a) rs) (λ a. flat_map_same (order_fact a) (order_fact_by a) (order_by a) rs) rs)
    (flat_map_same (λ (a : NumberedTest). flat_map (equality_fact a) rs) (equalities rs) (equality_by rs) rs)
    (flat_map_same
    (λ (a : NumberedTest). flat_map (λ (b : NumberedTest). flat_map (three_way_fact a b) rs) rs)
    (λ (a : NumberedTest). flat_map (three_ways rs a) rs)
    (λ a. flat_map_same (λ (b : NumberedTest). flat_map (three_way_fact a b) rs) (three_ways rs a) (three_ways_by rs a) rs)
    rs)
    (of_pairs tests pair_fact ∙ flat_map_same (λ (a : NumberedInterval). flat_map (pair_fact a) os) (interval_facts Two os) (two_by os) os)
    (of_triples tests triple_fact ∙ flat_map_same (λ (a : NumberedInterval). flat_map (λ b. flat_map (triple_fact a b) os) os) (interval_facts Three os) (three_by os) os)
    (flat_map_same (λ (a : NumberedTest). for_pairs (next_number_fact a) rs rs) (next_numbers rs) (next_by rs) rs)

pub by_list : (tests : List FlowComparisonTree) (n : ℕ) (xs : List (Option Interval)) (old new : List FlowHypothesis) → xs ≡ map interval_of tests →
    new ≡ capped n old (facts_by_list (enumerate_from 0 tests) (enumerate_from 0 xs)) → new ≡ capped n old (facts_between (enumerate_from 0 tests))
by_list tests n xs old new e f =
    f ∙ ap (λ ys. capped n old (facts_by_list (enumerate_from 0 tests) (enumerate_from 0 ys))) e ∙ ap (capped n old) (sym (facts_are_by_list tests))

-- ---- the opposites of a first test

eight_joined : {X : Type 0} (a b c d e f g h : List X) → ((a ++ b ++ c ++ d) ++ (e ++ f ++ g ++ h)) ≡ (a ++ b ++ c ++ d ++ e ++ f ++ g ++ h)
eight_joined a b c d e f g h = simp append_assoc

module _ (m i j k : ℕ) (a b c : Arc) where
  abbrev fact : Bool → Bool → Bool → List FlowHypothesis
  fact p q r = three_arc_fact m i j k a b c p q r

  signs_joined : (signed_arc_facts m i j k a b c true ++ signed_arc_facts m i j k a b c false) ≡ three_arc_facts m i j k a b c
  signs_joined =
      eight_joined (fact true true true) (fact true true false) (fact true false true) (fact true false false)
      (fact false true true) (fact false true false) (fact false false true) (fact false false false)

  pub three_signs : (n : ℕ) (old mid new : List FlowHypothesis) → mid ≡ capped n old (signed_arc_facts m i j k a b c true) → new ≡ capped n mid (signed_arc_facts m i j k a b c false) →
      new ≡ capped n old (three_arc_facts m i j k a b c)
  three_signs n old mid new e f =
      capped_then n old mid new (signed_arc_facts m i j k a b c true) (signed_arc_facts m i j k a b c false) e f ∙ ap (capped n old) signs_joined
