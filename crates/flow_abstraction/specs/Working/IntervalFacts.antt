-- F9 between intervals of the program.
use Rattle.std.specs.Prelude.{◌≡◌, ◌&&◌, ℕ, nat_lt, Bool, List, flat_map, map, Option, option_map, Result, IfOk}
use Rattle.kat_model.specs.Stores.{modulus}
use Rattle.kat_model.specs.declared.expression.Width.{Width}
use Rattle.flow_problem.specs.FlowFacts.{FlowHypothesis, Interval, lies_in, have_common, is_least, two_arc_fact, two_arc_facts, three_arc_fact, three_arc_facts, is_same_interval_form}
use Rattle.flow_abstraction.specs.declared.interval.Interval.{Interval as AnInterval}
use Rattle.flow_abstraction.specs.declared.interval.arcs.Span.{Span}
use Rattle.flow_abstraction.specs.declared.interval.interval_facts.IntervalCount.{IntervalCount}
use Rattle.flow_abstraction.specs.declared.interval.interval_facts.Literal.{Literal}
use Rattle.flow_abstraction.specs.declared.interval.interval_facts.NumberedInterval.{NumberedInterval as ANumberedInterval}
use Rattle.flow_abstraction.specs.declared.interval.interval_facts.Setting.{Setting}
use Rattle.flow_abstraction.specs.ArcViews.{arc_of, span_of}
use Rattle.flow_abstraction.specs.IntervalViews.{interval_tree}
use Rattle.flow_abstraction.specs.FactLists.{NumberedInterval, signed_arc_facts, third_interval, interval_facts_of, interval_facts_with, interval_facts}
use Rattle.flow_abstraction.specs.Working.Facts.{intervals_from}

abbrev pub MakesInterval : {E : Type 0} → Result (Option AnInterval) E → Option Interval → Type 0
MakesInterval result interval = IfOk result (λ made. option_map interval_tree made ≡ interval)

-- ---- arcs

abbrev pub is_in : Width → Span → ℕ → Bool
is_in width span number = lies_in (modulus width) (span_of span) number

abbrev pub is_in_both : Width → Span → Span → ℕ → Bool
is_in_both width a b number = is_in width a number && is_in width b number

abbrev pub have_common_of : Width → List Span → Bool
have_common_of width spans = have_common (modulus width) (map span_of spans)

abbrev pub is_least_of : Width → Span → Span → Span → Bool
is_least_of width a b c = is_least (modulus width) (span_of a) (span_of b) (span_of c)

-- ---- facts of two and three tests

abbrev pub signed_test : ANumberedInterval → Bool → Literal
signed_test test holds = record { number = test.number; arc = test.interval.now.arc; holds = holds }

abbrev pub fact_of_two : Width → Literal → Literal → List FlowHypothesis
fact_of_two width first second =
    two_arc_fact (modulus width) first.number second.number (arc_of first.arc) (arc_of second.arc) first.holds second.holds

abbrev pub fact_of_three : Width → Literal → Literal → Literal → List FlowHypothesis
fact_of_three width first second third =
    three_arc_fact (modulus width) first.number second.number third.number (arc_of first.arc) (arc_of second.arc) (arc_of third.arc) first.holds second.holds third.holds

abbrev pub facts_of_two : Width → ANumberedInterval → ANumberedInterval → List FlowHypothesis
facts_of_two width i j = two_arc_facts (modulus width) i.number j.number (arc_of i.interval.now.arc) (arc_of j.interval.now.arc)

abbrev pub signed_facts : Width → Literal → ANumberedInterval → ANumberedInterval → List FlowHypothesis
signed_facts width first j k =
    signed_arc_facts (modulus width) first.number j.number k.number (arc_of first.arc) (arc_of j.interval.now.arc) (arc_of k.interval.now.arc) first.holds

abbrev pub facts_of_three : Width → ANumberedInterval → ANumberedInterval → ANumberedInterval → List FlowHypothesis
facts_of_three width i j k =
    three_arc_facts (modulus width) i.number j.number k.number (arc_of i.interval.now.arc) (arc_of j.interval.now.arc) (arc_of k.interval.now.arc)

-- ---- facts of each test with each other one

abbrev pub is_further_than : ℕ → AnInterval → ℕ → AnInterval → Bool
is_further_than before first number interval =
    nat_lt before number && is_same_interval_form (interval_tree first) (interval_tree interval)

abbrev pub third_facts : ANumberedInterval → ANumberedInterval → ℕ → Option AnInterval → List FlowHypothesis
third_facts i j number third =
    third_interval i.number j.number (interval_tree i.interval.now) (interval_tree j.interval.now) (number, option_map interval_tree third)

abbrev pub all_thirds : ANumberedInterval → ANumberedInterval → ℕ → List (Option AnInterval) → List FlowHypothesis
all_thirds i j number intervals =
    flat_map (third_interval i.number j.number (interval_tree i.interval.now) (interval_tree j.interval.now)) (intervals_from number intervals)

abbrev pub rows_of : Setting → List NumberedInterval
rows_of setting = intervals_from 0 setting.intervals.now

abbrev pub facts_of_pair : Setting → ANumberedInterval → ANumberedInterval → List FlowHypothesis
facts_of_pair setting i j =
    interval_facts_of setting.count (rows_of setting) i.number j.number (interval_tree i.interval.now) (interval_tree j.interval.now)

abbrev pub second_facts : Setting → ANumberedInterval → ℕ → Option AnInterval → List FlowHypothesis
second_facts setting i number second =
    interval_facts_with setting.count (rows_of setting) i.number (interval_tree i.interval.now) (number, option_map interval_tree second)

abbrev pub all_seconds : Setting → ANumberedInterval → ℕ → List (Option AnInterval) → List FlowHypothesis
all_seconds setting i number intervals =
    flat_map (interval_facts_with setting.count (rows_of setting) i.number (interval_tree i.interval.now)) (intervals_from number intervals)

abbrev pub first_interval_facts : Setting → ℕ → Option AnInterval → List FlowHypothesis
first_interval_facts setting number first =
    interval_facts setting.count (rows_of setting) (number, option_map interval_tree first)

abbrev pub all_firsts : Setting → ℕ → List (Option AnInterval) → List FlowHypothesis
all_firsts setting number intervals = flat_map (interval_facts setting.count (rows_of setting)) (intervals_from number intervals)

abbrev pub facts_between_intervals : IntervalCount → List (Option AnInterval) → List FlowHypothesis
facts_between_intervals count intervals = flat_map (interval_facts count (intervals_from 0 intervals)) (intervals_from 0 intervals)
