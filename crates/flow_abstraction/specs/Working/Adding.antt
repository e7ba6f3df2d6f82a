-- What a call adds to the hypotheses of a problem, and hypotheses with tests of the program.
use Rattle.std.specs.Prelude.{◌≡◌, ℕ, Bool, List, map, Result, IfOk, OnOk, if◌then◌else◌, Vec}
use Rattle.std.specs.List.{enumerate_from}
use Rattle.std.specs.declared.alloc.Global.{Global}
use Rattle.kat_model.specs.Trees.{Term, kat_tree, test_tree, complement, product, test}
use Rattle.kat_model.specs.declared.tree.Kat.{Kat}
use Rattle.kat_model.specs.declared.tree.Test.{Test}
use Rattle.kat_model.specs.declared.limits.TheConstants.{MAX_HYPS}
use Rattle.flow_forms.specs.declared.comparison.FlowComparison.{FlowComparison}
use Rattle.flow_forms.specs.Comparisons.{comparison_tree}
use Rattle.flow_edges.specs.declared.action.FlowAction.{FlowAction}
use Rattle.flow_edges.specs.EdgeViews.{flow_action}
use Rattle.flow_problem.specs.FlowFacts.{FlowHypothesis, NumberedTest, NumberedAction, by_assignment, ends_in, ends_outside, none_of_three}
use Rattle.flow_abstraction.specs.declared.hypothesis.FlowRule.{FlowRule as ARule}
use Rattle.flow_abstraction.specs.declared.hypothesis.FlowHypothesis.{FlowHypothesis as AHypothesis}
use Rattle.flow_abstraction.specs.declared.hypotheses.Reasons.{Reasons}
use Rattle.flow_abstraction.specs.CappedLists.{capped}
use Rattle.flow_abstraction.specs.HypothesisViews.{flow_rule, flow_hypothesis}

-- the list has the hypotheses that it had and more of them, up to one more than the limit
abbrev pub Adds : {E : Type 0} → Result (Unit {0}) E → Vec AHypothesis Global → Vec AHypothesis Global → List FlowHypothesis → Type 0
Adds result old new more = OnOk result (map flow_hypothesis new.items ≡ capped MAX_HYPS (map flow_hypothesis old.items) more)

abbrev pub MakesFacts : {E : Type 0} → Result (Vec AHypothesis Global) E → List FlowHypothesis → Type 0
MakesFacts result facts = IfOk result (λ made. map flow_hypothesis made.items ≡ facts)

abbrev pub hypothesis_of : ARule → Kat → FlowHypothesis
hypothesis_of rule term = record { rule = flow_rule rule; term = kat_tree term }

-- the rules and the terms of a list of hypotheses
abbrev pub HasRulesOf : Vec AHypothesis Global → Reasons → Type 0
HasRulesOf list r = map flow_rule r.rules.items ≡ map (λ h. h.rule) (map flow_hypothesis list.items)

abbrev pub HasTermsOf : Vec AHypothesis Global → Reasons → Type 0
HasTermsOf list r = map kat_tree r.terms.items ≡ map (λ h. h.term) (map flow_hypothesis list.items)

-- tests and actions with their numbers, from a number on
abbrev pub tests_from : ℕ → List FlowComparison → List NumberedTest
tests_from number tests = enumerate_from number (map comparison_tree tests)

abbrev pub all_tests : List FlowComparison → List NumberedTest
all_tests tests = tests_from 0 tests

abbrev pub actions_from : ℕ → List FlowAction → List NumberedAction
actions_from number actions = enumerate_from number (map flow_action actions)

-- the hypotheses that an action ends in a test, or outside it, where a condition holds before it
abbrev pub wrong_end_of : Bool → ℕ → ℕ → Term
wrong_end_of holds action number = if holds then ends_in action number else ends_outside action number

abbrev pub leaving_fact : ℕ → ℕ → Test → FlowHypothesis
leaving_fact action number before =
    record { rule = by_assignment action number; term = product (test (test_tree before)) (ends_in action number) }

abbrev pub entering_fact : ℕ → ℕ → Test → FlowHypothesis
entering_fact action number before =
    record { rule = by_assignment action number; term = product (test (complement (test_tree before))) (ends_outside action number) }

abbrev pub none_of_tests : Test → Test → Test → Term
none_of_tests first second third = none_of_three (test_tree first) (test_tree second) (test_tree third)
