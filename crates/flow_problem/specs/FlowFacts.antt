-- The hypotheses of a flow problem: what assignments say by substitution, and facts between tests. Each is a term that
-- relates no states.
use Rattle.std.specs.Prelude.{ℕ, ◌+◌, ◌-◌, ◌%◌, Bool, true, false, not, ◌&&◌, nat_lt, List, [], ◌∷◌, ◌++◌, flat_map, Option, Some, None, if◌then◌else◌}
use Rattle.std.specs.List.{list_any, list_all, enumerate_from}
use Rattle.std.specs.Ordering.{is_eq}
use Rattle.kat_model.specs.Trees.{TestTree, prim, complement, Term, test, act, product}
use Rattle.kat_model.specs.Stores.{modulus}
use Rattle.kat_model.specs.declared.expression.Width.{Width}
use Rattle.kat_model.specs.declared.expression.Rel.TheVariants.{Eq, Lt}
use Rattle.flow_model.specs.declared.sort.Sort.{Sort}
use Rattle.flow_forms.specs.Forms.{FlowFormTree, constant, term}
use Rattle.flow_forms.specs.Order.{form_cmp}
use Rattle.flow_forms.specs.Arithmetic.{form_sum}
use Rattle.flow_forms.specs.Conversions.{is_same_width}
use Rattle.flow_forms.specs.Comparisons.{FlowComparisonTree, zero_form, less_form, FlowLiteralTree, decided, holding, failing, canonical, compared_numbers, is_same_comparison}
use Rattle.flow_problem.specs.Edges.{FlowActionTree, assigned, given}
use Rattle.flow_problem.specs.Substitutions.{literal_after, prim_of, complement_of}

-- why a hypothesis is one: by an assignment and a test, or by a fact between tests, with their numbers
pub data FlowRule : Type 0 where
  by_assignment : (action test : ℕ) → FlowRule
  by_order : (i j : ℕ) → FlowRule
  by_equality : (i j : ℕ) → FlowRule
  by_three_ways : (i j k : ℕ) → FlowRule
  by_intervals : (tests : List ℕ) → FlowRule
  by_next_number : (i j k : ℕ) → FlowRule

pub record FlowHypothesis : Type 0 where
  pub rule : FlowRule
  pub term : Term

-- a comparison with its number among the tests, and an action with its number
abbrev pub NumberedTest : Type 0
NumberedTest = ℕ × FlowComparisonTree

abbrev pub NumberedAction : Type 0
NumberedAction = ℕ × FlowActionTree

-- ---- assignments

-- no run of action i ends outside test j, or in it
abbrev pub ends_in : ℕ → ℕ → Term
ends_in i j = product (act i) (test (complement_of j))

abbrev pub ends_outside : ℕ → ℕ → Term
ends_outside i j = product (act i) (test (prim j))

-- test j holds after action i exactly when the test holds before it
abbrev pub keeps_test : ℕ → ℕ → TestTree → List FlowHypothesis
keeps_test i j b =
    record { rule = by_assignment i j; term = product (test b) (ends_in i j) }
    ∷ record { rule = by_assignment i j; term = product (test (complement b)) (ends_outside i j) } ∷ []

abbrev pub keeps_prim : ℕ → ℕ → Option ℕ → List FlowHypothesis
keeps_prim i j None = []
keeps_prim i j (Some k) = keeps_test i j (prim k)

abbrev pub keeps_complement : ℕ → ℕ → Option ℕ → List FlowHypothesis
keeps_complement i j None = []
keeps_complement i j (Some k) = keeps_test i j (complement_of k)

abbrev pub keeps_literal : List FlowComparisonTree → ℕ → ℕ → FlowLiteralTree → List FlowHypothesis
keeps_literal tests i j (decided b) = record { rule = by_assignment i j; term = if b then ends_in i j else ends_outside i j } ∷ []
keeps_literal tests i j (holding c) = keeps_prim i j (prim_of tests c)
keeps_literal tests i j (failing c) = keeps_complement i j (prim_of tests c)

abbrev pub keeps_if_known : List FlowComparisonTree → ℕ → ℕ → Option FlowLiteralTree → List FlowHypothesis
keeps_if_known tests i j None = []
keeps_if_known tests i j (Some l) = keeps_literal tests i j l

abbrev pub action_facts : List Sort → List FlowComparisonTree → NumberedAction → NumberedTest → List FlowHypothesis
action_facts sorts tests (i, assigned os) (j, c) = keeps_if_known tests i j (literal_after sorts os c)
action_facts sorts tests (i, given results) b = []

-- ---- facts between tests

abbrev pub fact_where : Bool → FlowRule → Term → List FlowHypothesis
fact_where b rule e = if b then record { rule = rule; term = e } ∷ [] else []

-- tests i and j exclude one another
abbrev pub never_both : ℕ → ℕ → Term
never_both i j = product (test (prim i)) (test (prim j))

abbrev pub is_one_form : FlowFormTree → FlowFormTree → Bool
is_one_form f g = is_eq (form_cmp f g)

-- the second is f < g of a width, and the first g < f
abbrev pub are_turned : Width → FlowFormTree → FlowFormTree → Width → FlowFormTree → FlowFormTree → Bool
are_turned v d e w f g = is_same_width v w && (is_one_form d g && is_one_form e f)

-- F2: f < g and g < f do not both hold
abbrev pub order_fact : NumberedTest → NumberedTest → List FlowHypothesis
order_fact (i, less_form v d e) (j, less_form w f g) = fact_where (nat_lt i j && are_turned v d e w f g) (by_order i j) (never_both i j)
order_fact a b = []

-- whether the condition is that the comparison holds
abbrev pub is_comparison : FlowLiteralTree → FlowComparisonTree → Bool
is_comparison (decided b) c = false
is_comparison (holding d) c = is_same_comparison d c
is_comparison (failing d) c = false

-- whether a test says that two forms of a width are equal
abbrev pub denotes_equal : Width → FlowFormTree → FlowFormTree → FlowComparisonTree → Bool
denotes_equal w f g c = is_comparison (compared_numbers w Eq f g) c

abbrev pub denotes_less : Width → FlowFormTree → FlowFormTree → FlowComparisonTree → Bool
denotes_less w f g c = is_comparison (compared_numbers w Lt f g) c

-- F3: f < g and f == g do not both hold
abbrev pub equality_fact : NumberedTest → NumberedTest → List FlowHypothesis
equality_fact (i, less_form w f g) (j, c) = fact_where (denotes_equal w f g c) (by_equality i j) (never_both i j)
equality_fact a b = []

abbrev pub none_of_three : TestTree → TestTree → TestTree → Term
none_of_three a b c = product (test a) (product (test b) (test c))

-- F6: one of f < g, g < f and f == g holds
abbrev pub three_way_fact : NumberedTest → NumberedTest → NumberedTest → List FlowHypothesis
three_way_fact (i, less_form v d e) (j, less_form w f g) (k, c) =
    fact_where ((nat_lt i j && are_turned v d e w f g) && denotes_equal w f g c) (by_three_ways i j k)
    (none_of_three (complement_of i) (complement_of j) (complement_of k))
three_way_fact a b c = []

-- F10: f < g and not f + 1 < g give f + 1 == g
abbrev pub next_number_fact : NumberedTest → NumberedTest → NumberedTest → List FlowHypothesis
next_number_fact (i, less_form w f g) (j, c) (k, d) =
    fact_where (denotes_less w (form_sum (modulus w) f (constant 1)) g c && denotes_equal w (form_sum (modulus w) f (constant 1)) g d) (by_next_number i j k)
    (none_of_three (prim i) (complement_of j) (complement_of k))
next_number_fact a b c = []

-- ---- F9: intervals modulo 2 to the width

-- the numbers from a start on, as many as the length says, modulo m
pub record Arc : Type 0 where
  pub start : ℕ
  pub size : ℕ

abbrev pub lies_in : ℕ → Arc → ℕ → Bool
lies_in m arc n = nat_lt ((n + (m - arc.start)) % m) arc.size

-- the numbers outside an arc
abbrev pub other_arc : ℕ → Arc → Arc
other_arc m arc = record { start = (arc.start + arc.size) % m; size = m - arc.size }

-- whether some number lies in each arc: then the start of one of them does
abbrev pub have_common : ℕ → List Arc → Bool
have_common m arcs = list_any (λ a. list_all (λ b. lies_in m b a.start) arcs) arcs

-- a form without its constant, and the constant
abbrev pub varying_part : FlowFormTree → FlowFormTree
varying_part (constant c) = constant 0
varying_part (term t p rest) = term t p (varying_part rest)
varying_part f = f

abbrev pub constant_part : FlowFormTree → ℕ
constant_part (constant c) = c
constant_part (term t p rest) = constant_part rest
constant_part f = 0

-- that a form of a width, which stands for itself and its opposite, lies in an arc
pub record Interval : Type 0 where
  pub width : Width
  pub form : FlowFormTree
  pub arc : Arc

-- f + c < d, as an interval of f or of -f, whichever is the lesser
abbrev pub interval_of_sum : Width → FlowFormTree → ℕ → ℕ → Interval
interval_of_sum w f c d =
    if is_one_form f (canonical (modulus w) f)
    then record { width = w; form = f; arc = record { start = (modulus w - c) % modulus w; size = d } }
    else record { width = w; form = canonical (modulus w) f; arc = record { start = (c + 1 + (modulus w - d)) % modulus w; size = d } }

abbrev pub interval_below : Width → FlowFormTree → ℕ → Option Interval
interval_below w f d = if nat_lt d (modulus w) then Some (interval_of_sum w (varying_part f) (constant_part f % modulus w) d) else None

abbrev pub interval_of : FlowComparisonTree → Option Interval
interval_of (zero_form w f) = interval_below w f 1
interval_of (less_form w f (constant d)) = interval_below w f d
interval_of c = None

abbrev pub is_same_interval_form : Interval → Interval → Bool
is_same_interval_form a b = is_same_width a.width b.width && is_one_form a.form b.form

-- a test or its opposite, with its number
abbrev pub literal_arc : ℕ → Arc → Bool → Arc
literal_arc m arc b = if b then arc else other_arc m arc

abbrev pub literal_test : ℕ → Bool → TestTree
literal_test k b = if b then prim k else complement_of k

-- two literals that no number satisfies
abbrev pub two_arc_fact : ℕ → ℕ → ℕ → Arc → Arc → Bool → Bool → List FlowHypothesis
two_arc_fact m i j a b p q =
    fact_where (not (have_common m (literal_arc m a p ∷ literal_arc m b q ∷ []))) (by_intervals (i ∷ j ∷ []))
    (product (test (literal_test i p)) (test (literal_test j q)))

abbrev pub two_arc_facts : ℕ → ℕ → ℕ → Arc → Arc → List FlowHypothesis
two_arc_facts m i j a b =
    two_arc_fact m i j a b true true ++ two_arc_fact m i j a b true false
    ++ two_arc_fact m i j a b false true ++ two_arc_fact m i j a b false false

abbrev pub pair_of_intervals : ℕ → ℕ → Option Interval → Option Interval → List FlowHypothesis
pair_of_intervals i j None y = []
pair_of_intervals i j (Some a) None = []
pair_of_intervals i j (Some a) (Some b) = if is_same_interval_form a b then two_arc_facts (modulus a.width) i j a.arc b.arc else []

-- F9 of two tests: a product of them and their opposites that no number satisfies
abbrev pub two_interval_fact : NumberedTest → NumberedTest → List FlowHypothesis
two_interval_fact (i, c) (j, d) = if nat_lt i j then pair_of_intervals i j (interval_of c) (interval_of d) else []

-- three literals that no number satisfies, while some number satisfies each two of them
abbrev pub is_least : ℕ → Arc → Arc → Arc → Bool
is_least m a b c =
    have_common m (a ∷ b ∷ []) && (have_common m (a ∷ c ∷ []) && (have_common m (b ∷ c ∷ []) && not (have_common m (a ∷ b ∷ c ∷ []))))

abbrev pub three_arc_fact : ℕ → ℕ → ℕ → ℕ → Arc → Arc → Arc → Bool → Bool → Bool → List FlowHypothesis
three_arc_fact m i j k a b c p q r =
    fact_where (is_least m (literal_arc m a p) (literal_arc m b q) (literal_arc m c r)) (by_intervals (i ∷ j ∷ k ∷ []))
    (none_of_three (literal_test i p) (literal_test j q) (literal_test k r))

abbrev pub three_arc_facts : ℕ → ℕ → ℕ → ℕ → Arc → Arc → Arc → List FlowHypothesis
three_arc_facts m i j k a b c =
    three_arc_fact m i j k a b c true true true ++ three_arc_fact m i j k a b c true true false
    ++ three_arc_fact m i j k a b c true false true ++ three_arc_fact m i j k a b c true false false
    ++ three_arc_fact m i j k a b c false true true ++ three_arc_fact m i j k a b c false true false
    ++ three_arc_fact m i j k a b c false false true ++ three_arc_fact m i j k a b c false false false

abbrev pub triple_of_intervals : ℕ → ℕ → ℕ → Option Interval → Option Interval → Option Interval → List FlowHypothesis
triple_of_intervals i j k None y z = []
triple_of_intervals i j k (Some a) None z = []
triple_of_intervals i j k (Some a) (Some b) None = []
triple_of_intervals i j k (Some a) (Some b) (Some c) =
    if is_same_interval_form a b && is_same_interval_form a c then three_arc_facts (modulus a.width) i j k a.arc b.arc c.arc else []

-- F9 of three tests
abbrev pub three_interval_fact : NumberedTest → NumberedTest → NumberedTest → List FlowHypothesis
three_interval_fact (i, c) (j, d) (k, e) =
    if nat_lt i j && nat_lt j k then triple_of_intervals i j k (interval_of c) (interval_of d) (interval_of e) else []

-- ---- all hypotheses

-- the results for each pair, and for each triple, of rows, in their order
abbrev pub for_pairs : {X Y Z : Type 0} → (X → Y → List Z) → List X → List Y → List Z
for_pairs make xs ys = flat_map (λ x. flat_map (make x) ys) xs

abbrev pub for_triples : {X Z : Type 0} → (X → X → X → List Z) → List X → List Z
for_triples make xs = flat_map (λ x. for_pairs (make x) xs xs) xs

abbrev pub facts_between : List NumberedTest → List FlowHypothesis
facts_between rows =
    for_pairs order_fact rows rows
    ++ for_pairs equality_fact rows rows
    ++ for_triples three_way_fact rows
    ++ for_pairs two_interval_fact rows rows
    ++ for_triples three_interval_fact rows
    ++ for_triples next_number_fact rows

abbrev pub flow_hypotheses : List Sort → List FlowComparisonTree → List FlowActionTree → List FlowHypothesis
flow_hypotheses sorts tests actions =
    for_pairs (action_facts sorts tests) (enumerate_from 0 actions) (enumerate_from 0 tests)
    ++ facts_between (enumerate_from 0 tests)
