-- Facts between tests of the program.
use Rattle.std.specs.Prelude.{◌≡◌, ℕ, List, ◌∷◌, flat_map, map, Option, option_map}
use Rattle.std.specs.List.{enumerate_from}
use Rattle.kat_model.specs.Stores.{modulus}
use Rattle.kat_model.specs.declared.expression.Width.{Width}
use Rattle.kat_model.specs.declared.expression.Rel.{Rel}
use Rattle.kat_model.specs.declared.expression.Rel.TheVariants.{Eq, Lt}
use Rattle.flow_forms.specs.declared.form.FlowForm.{FlowForm}
use Rattle.flow_forms.specs.declared.comparison.FlowComparison.{FlowComparison}
use Rattle.flow_forms.specs.declared.comparison.FlowLiteral.{FlowLiteral}
use Rattle.flow_forms.specs.Forms.{form_tree, constant}
use Rattle.flow_forms.specs.Arithmetic.{form_sum}
use Rattle.flow_forms.specs.Comparisons.{FlowLiteralTree, comparison_tree, literal_tree, compared_numbers}
use Rattle.flow_problem.specs.FlowFacts.{FlowHypothesis, NumberedTest, Interval, interval_of}
use Rattle.flow_abstraction.specs.declared.completion.Pending.{Pending}
use Rattle.flow_abstraction.specs.declared.facts.FactKind.{FactKind}
use Rattle.flow_abstraction.specs.declared.facts.NumberedTest.{NumberedTest as ANumberedTest}
use Rattle.flow_abstraction.specs.declared.facts.NextNumber.{NextNumber}
use Rattle.flow_abstraction.specs.declared.interval.Interval.{Interval as AnInterval}
use Rattle.flow_abstraction.specs.IntervalViews.{interval_tree}
use Rattle.flow_abstraction.specs.Completions.{completed_fact}
use Rattle.flow_abstraction.specs.FactLists.{NumberedInterval, order_fact_by, third_ways, three_ways, next_numbers_at, next_numbers, first_facts, facts_by_list}
use Rattle.flow_abstraction.specs.Working.Adding.{tests_from, all_tests}

abbrev pub test_of : ANumberedTest → NumberedTest
test_of a = (a.number, comparison_tree a.test.now)

-- the facts that a test completes, or each of some tests
abbrev pub completed_by : Pending → FlowLiteral → ℕ → FlowComparison → List FlowHypothesis
completed_by pending literal number test = completed_fact pending (literal_tree literal) (number, comparison_tree test)

abbrev pub completed_all : Pending → FlowLiteral → ℕ → List FlowComparison → List FlowHypothesis
completed_all pending literal number tests = flat_map (completed_fact pending (literal_tree literal)) (tests_from number tests)

-- F2
abbrev pub order_fact_at : ANumberedTest → ℕ → FlowComparison → List FlowHypothesis
order_fact_at first number second = order_fact_by (test_of first) (number, comparison_tree second)

abbrev pub order_facts : ANumberedTest → ℕ → List FlowComparison → List FlowHypothesis
order_facts first number tests = flat_map (order_fact_by (test_of first)) (tests_from number tests)

-- F6
abbrev pub third_ways_at : List FlowComparison → ℕ → ℕ → FlowComparison → List FlowHypothesis
third_ways_at tests i j second = third_ways (all_tests tests) i j (comparison_tree second)

abbrev pub three_ways_at : List FlowComparison → ANumberedTest → ℕ → FlowComparison → List FlowHypothesis
three_ways_at tests first number second = three_ways (all_tests tests) (test_of first) (number, comparison_tree second)

abbrev pub all_three_ways : List FlowComparison → ANumberedTest → ℕ → List FlowComparison → List FlowHypothesis
all_three_ways tests first number others = flat_map (three_ways (all_tests tests) (test_of first)) (tests_from number others)

-- F10
abbrev pub next_condition : Width → Rel → FlowForm → FlowForm → FlowLiteralTree
next_condition width rel left right =
    compared_numbers width rel (form_sum (modulus width) (form_tree left) (constant 1)) (form_tree right)

-- the conditions of the test with a number
abbrev pub IsNext : ℕ → Width → FlowForm → FlowForm → NextNumber → Type 0
IsNext number width left right n =
    (n.number ≡ number) × (literal_tree n.less ≡ next_condition width Lt left right) × (literal_tree n.equal ≡ next_condition width Eq left right)

abbrev pub next_at : List FlowComparison → NextNumber → ℕ → FlowComparison → List FlowHypothesis
next_at tests next number second =
    next_numbers_at (all_tests tests) next.number (literal_tree next.less) (literal_tree next.equal) (number, comparison_tree second)

abbrev pub all_next : List FlowComparison → NextNumber → ℕ → List FlowComparison → List FlowHypothesis
all_next tests next number others =
    flat_map (next_numbers_at (all_tests tests) next.number (literal_tree next.less) (literal_tree next.equal)) (tests_from number others)

abbrev pub next_facts : List FlowComparison → ANumberedTest → List FlowHypothesis
next_facts tests first = next_numbers (all_tests tests) (test_of first)

-- the facts of one kind of a first test, of each of some first tests, and of a test and others after it
abbrev pub first_facts_at : FactKind → List FlowComparison → ANumberedTest → List FlowHypothesis
first_facts_at kind tests first = first_facts kind (all_tests tests) (test_of first)

abbrev pub all_first_facts : FactKind → List FlowComparison → ℕ → List FlowComparison → List FlowHypothesis
all_first_facts kind tests number firsts = flat_map (first_facts kind (all_tests tests)) (tests_from number firsts)

abbrev pub all_facts_from : FactKind → List FlowComparison → ANumberedTest → List FlowComparison → List FlowHypothesis
all_facts_from kind tests first rest = all_first_facts kind tests first.number (first.test.now ∷ rest)

-- the intervals of tests, and all facts of tests with their intervals
abbrev pub intervals_from : ℕ → List (Option AnInterval) → List NumberedInterval
intervals_from number intervals = enumerate_from number (map (option_map interval_tree) intervals)

abbrev pub intervals_of_tests : List FlowComparison → List (Option Interval)
intervals_of_tests tests = map interval_of (map comparison_tree tests)

abbrev pub facts_with_intervals : List FlowComparison → List (Option AnInterval) → List FlowHypothesis
facts_with_intervals tests intervals = facts_by_list (all_tests tests) (intervals_from 0 intervals)
