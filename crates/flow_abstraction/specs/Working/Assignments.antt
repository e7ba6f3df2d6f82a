-- Hypotheses of assignments of the program.
use Rattle.std.specs.Prelude.{ℕ, List, flat_map, map, Option}
use Rattle.flow_model.specs.declared.sort.Sort.{Sort}
use Rattle.flow_forms.specs.declared.form.FlowForm.{FlowForm}
use Rattle.flow_forms.specs.declared.comparison.FlowComparison.{FlowComparison}
use Rattle.flow_forms.specs.declared.comparison.FlowLiteral.{FlowLiteral}
use Rattle.flow_forms.specs.Forms.{form_tree}
use Rattle.flow_forms.specs.Comparisons.{comparison_tree, literal_tree}
use Rattle.flow_ways.specs.ActionTrees.{set_tree}
use Rattle.flow_edges.specs.declared.action.FlowAction.{FlowAction}
use Rattle.flow_edges.specs.EdgeViews.{flow_action}
use Rattle.flow_problem.specs.Edges.{assigned}
use Rattle.flow_problem.specs.FlowFacts.{FlowHypothesis, NumberedTest, keeps_literal, flow_hypotheses}
use Rattle.flow_abstraction.specs.declared.assignment.Assignment.{Assignment}
use Rattle.flow_abstraction.specs.declared.assignment.Setting.{Setting}
use Rattle.flow_abstraction.specs.ActionLists.{facts_with, facts_of_action}
use Rattle.flow_abstraction.specs.Working.Adding.{tests_from, actions_from}

abbrev pub literal_facts : List FlowComparison → ℕ → ℕ → FlowLiteral → List FlowHypothesis
literal_facts tests action number literal = keeps_literal (map comparison_tree tests) action number (literal_tree literal)

-- the hypotheses of an assignment and a numbered test
abbrev pub facts_after : Setting → Assignment → NumberedTest → List FlowHypothesis
facts_after setting action test =
    facts_with setting.sorts.now (map comparison_tree setting.tests.now) action.number (map set_tree action.sets.now) (map form_tree action.forms.now) test

abbrev pub test_facts : Setting → Assignment → ℕ → FlowComparison → List FlowHypothesis
test_facts setting action number test = facts_after setting action (number, comparison_tree test)

abbrev pub tests_facts : Setting → Assignment → ℕ → List FlowComparison → List FlowHypothesis
tests_facts setting action number tests = flat_map (facts_after setting action) (tests_from number tests)

-- the hypotheses of an assignment, of an action, and of each of some actions, with each test
abbrev pub assignment_facts : Setting → ℕ → List (Option FlowForm) → List FlowHypothesis
assignment_facts setting number sets =
    facts_of_action setting.sorts.now (map comparison_tree setting.tests.now) (number, assigned (map set_tree sets))

abbrev pub action_facts : Setting → ℕ → FlowAction → List FlowHypothesis
action_facts setting number action =
    facts_of_action setting.sorts.now (map comparison_tree setting.tests.now) (number, flow_action action)

abbrev pub actions_facts : Setting → ℕ → List FlowAction → List FlowHypothesis
actions_facts setting number actions =
    flat_map (facts_of_action setting.sorts.now (map comparison_tree setting.tests.now)) (actions_from number actions)

abbrev pub assignments_facts : List Sort → List FlowComparison → List FlowAction → List FlowHypothesis
assignments_facts sorts tests actions = flat_map (facts_of_action sorts (map comparison_tree tests)) (actions_from 0 actions)

-- all hypotheses of a problem
abbrev pub all_hypotheses : List Sort → List FlowComparison → List FlowAction → List FlowHypothesis
all_hypotheses sorts tests actions = flow_hypotheses sorts (map comparison_tree tests) (map flow_action actions)
