-- The facts between tests in the form in which they are computed: what holds of the first tests is decided once.
use Rattle.std.specs.Prelude.{ℕ, ◌&&◌, nat_lt, Bool, true, false, List, [], ◌++◌, flat_map, Option, Some, None, if◌then◌else◌}
use Rattle.kat_model.specs.Stores.{modulus}
use Rattle.kat_model.specs.declared.expression.Rel.TheVariants.{Eq, Lt}
use Rattle.flow_forms.specs.Forms.{constant}
use Rattle.flow_forms.specs.Arithmetic.{form_sum}
use Rattle.flow_forms.specs.Comparisons.{FlowComparisonTree, less_form, FlowLiteralTree, compared_numbers}
use Rattle.flow_problem.specs.FlowFacts.{FlowHypothesis, NumberedTest, are_turned, fact_where, by_order, never_both, is_comparison, Arc, Interval, is_same_interval_form, two_arc_facts, three_arc_fact, three_arc_facts}
use Rattle.flow_abstraction.specs.declared.facts.FactKind.{FactKind}
use Rattle.flow_abstraction.specs.declared.facts.FactKind.TheVariants.{Order, Equality, ThreeWays, NextNumber}
use Rattle.flow_abstraction.specs.declared.interval.interval_facts.IntervalCount.{IntervalCount}
use Rattle.flow_abstraction.specs.declared.interval.interval_facts.IntervalCount.TheVariants.{Two, Three}
use Rattle.flow_abstraction.specs.declared.completion.Pending.TheVariants as pending
use Rattle.flow_abstraction.specs.Completions.{completed_fact}

-- whether the tests are f < g and g < f, the first of them before the second
abbrev pub converse : NumberedTest → NumberedTest → Bool
converse (i, less_form v d e) (j, less_form w f g) = nat_lt i j && are_turned v d e w f g
converse a b = false

-- F2 of two tests
abbrev pub order_fact_by : NumberedTest → NumberedTest → List FlowHypothesis
order_fact_by a b = fact_where (converse a b) (by_order a.0 b.0) (never_both a.0 b.0)

-- F3 of a first test
abbrev pub equalities : List NumberedTest → NumberedTest → List FlowHypothesis
equalities rows (i, less_form w f g) = flat_map (completed_fact (pending.Equality i) (compared_numbers w Eq f g)) rows
equalities rows a = []

-- F6 of tests i and j, which are turned
abbrev pub third_ways : List NumberedTest → ℕ → ℕ → FlowComparisonTree → List FlowHypothesis
third_ways rows i j (less_form w f g) = flat_map (completed_fact (pending.ThreeWays i j) (compared_numbers w Eq f g)) rows
third_ways rows i j c = []

-- F6 of two tests
abbrev pub three_ways : List NumberedTest → NumberedTest → NumberedTest → List FlowHypothesis
three_ways rows a b = if converse a b then third_ways rows a.0 b.0 b.1 else []

-- F10 of test i and a second one, where f + 1 < g and f + 1 == g are these conditions
abbrev pub next_numbers_at : List NumberedTest → ℕ → FlowLiteralTree → FlowLiteralTree → NumberedTest → List FlowHypothesis
next_numbers_at rows i less same (j, c) = if is_comparison less c then flat_map (completed_fact (pending.NextNumber i j) same) rows else []

-- F10 of a first test
abbrev pub next_numbers : List NumberedTest → NumberedTest → List FlowHypothesis
next_numbers rows (i, less_form w f g) =
    flat_map
    (next_numbers_at rows i
    (compared_numbers w Lt (form_sum (modulus w) f (constant 1)) g)
    (compared_numbers w Eq (form_sum (modulus w) f (constant 1)) g))
    rows
next_numbers rows a = []

abbrev pub first_facts : FactKind → List NumberedTest → NumberedTest → List FlowHypothesis
first_facts Order rows a = flat_map (order_fact_by a) rows
first_facts Equality rows a = equalities rows a
first_facts ThreeWays rows a = flat_map (three_ways rows a) rows
first_facts NextNumber rows a = next_numbers rows a

-- ---- F9

-- the interval of a test, if it has one, with the number of the test
abbrev pub NumberedInterval : Type 0
NumberedInterval = ℕ × Option Interval

-- F9 of three tests of which the first or its opposite is taken
abbrev pub signed_arc_facts : ℕ → ℕ → ℕ → ℕ → Arc → Arc → Arc → Bool → List FlowHypothesis
signed_arc_facts m i j k a b c p =
    three_arc_fact m i j k a b c p true true ++ three_arc_fact m i j k a b c p true false
    ++ three_arc_fact m i j k a b c p false true ++ three_arc_fact m i j k a b c p false false

-- F9 of two tests with intervals of one form, and a third one
abbrev pub third_interval : ℕ → ℕ → Interval → Interval → NumberedInterval → List FlowHypothesis
third_interval i j a b (k, None) = []
third_interval i j a b (k, Some c) =
    if nat_lt j k && is_same_interval_form a c then three_arc_facts (modulus a.width) i j k a.arc b.arc c.arc else []

-- F9 of two tests with intervals of one form, or of these and each third one
abbrev pub interval_facts_of : IntervalCount → List NumberedInterval → ℕ → ℕ → Interval → Interval → List FlowHypothesis
interval_facts_of Two rows i j a b = two_arc_facts (modulus a.width) i j a.arc b.arc
interval_facts_of Three rows i j a b = flat_map (third_interval i j a b) rows

-- F9 of a test with an interval and a second one
abbrev pub interval_facts_with : IntervalCount → List NumberedInterval → ℕ → Interval → NumberedInterval → List FlowHypothesis
interval_facts_with count rows i a (j, None) = []
interval_facts_with count rows i a (j, Some b) =
    if nat_lt i j && is_same_interval_form a b then interval_facts_of count rows i j a b else []

-- F9 of a first test
abbrev pub interval_facts : IntervalCount → List NumberedInterval → NumberedInterval → List FlowHypothesis
interval_facts count rows (i, None) = []
interval_facts count rows (i, Some a) = flat_map (interval_facts_with count rows i a) rows

-- all facts between tests
abbrev pub facts_by_list : List NumberedTest → List NumberedInterval → List FlowHypothesis
facts_by_list rows intervals =
    flat_map (first_facts Order rows) rows
    ++ flat_map (first_facts Equality rows) rows
    ++ flat_map (first_facts ThreeWays rows) rows
    ++ flat_map (interval_facts Two intervals) intervals
    ++ flat_map (interval_facts Three intervals) intervals
    ++ flat_map (first_facts NextNumber rows) rows
