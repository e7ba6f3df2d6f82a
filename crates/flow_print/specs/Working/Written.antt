-- What a call writes of names, rules, tests and actions of the program.
use Rattle.std.specs.Prelude.{◌≡◌, Bool, true, ℕ, List, [], ◌∷◌, ◌++◌, codes, length, map, Option, Result, OnOk, if◌then◌else◌, Vec}
use Rattle.std.specs.List.{enumerate_from}
use Rattle.std.specs.declared.alloc.Global.{Global}
use Rattle.kat_model.specs.Problems.{ProblemParts}
use Rattle.kat_model.specs.declared.expression.Width.{Width}
use Rattle.flow_forms.specs.declared.form.FlowForm.{FlowForm}
use Rattle.flow_forms.specs.declared.comparison.FlowComparison.{FlowComparison}
use Rattle.flow_forms.specs.Forms.{form_tree}
use Rattle.flow_forms.specs.Comparisons.{comparison_tree}
use Rattle.flow_ways.specs.declared.way.SortedForm.{SortedForm}
use Rattle.flow_ways.specs.ActionTrees.{set_tree}
use Rattle.flow_ways.specs.WayTrees.{sorted_form}
use Rattle.problem_file.specs.Questions.{plain_name}
use Rattle.problem_file.specs.CommentedTexts.{comment_text, comments_text, commented_hyps}
use Rattle.flow_edges.specs.declared.action.FlowAction.{FlowAction}
use Rattle.flow_edges.specs.EdgeViews.{flow_action}
use Rattle.flow_abstraction.specs.declared.hypothesis.FlowRule.{FlowRule}
use Rattle.flow_abstraction.specs.HypothesisViews.{flow_rule}
use Rattle.flow_print.specs.declared.names.FlowNames.{FlowNames}
use Rattle.flow_print.specs.NameTables.{NameTable, names_of}
use Rattle.flow_print.specs.FormTexts.{form_text, sign_text, times_text, magnitude, part_text, arguments_text, side_text, comparison_text}
use Rattle.flow_print.specs.ActionTexts.{target_text, targets_text, value_text, values_text, results_text, action_text}
use Rattle.flow_print.specs.ReasonTexts.{reason_text, is_new, reason_before, comments_before, comments_from}
use Rattle.flow_print.specs.FlowTexts.{test_comment, action_comment, flow_text}

-- the text is what it was, and then more
abbrev pub Writes : {E : Type 0} → Result (Unit {0}) E → Vec ℕ Global → Vec ℕ Global → List ℕ → Type 0
Writes result old new more = OnOk result (new.items ≡ old.items ++ more)

abbrev pub names_in : FlowNames → NameTable
names_in names = names_of names.variables.now names.sorts.now names.functions.now

-- a sign and a number before a product
abbrev pub factor_text : Width → Bool → ℕ → List ℕ
factor_text width first number = sign_text width first number ++ times_text (magnitude width number)

-- two forms with a sign between them
abbrev pub compared_of : FlowNames → Width → FlowForm → List ℕ → FlowForm → List ℕ
compared_of names width left sign right =
    form_text (names_in names) width (form_tree left) ++ sign ++ form_text (names_in names) width (form_tree right)

abbrev pub part_of : FlowNames → Width → Bool → FlowForm → List ℕ
part_of names width first form = part_text (names_in names) width first (form_tree form)

abbrev pub arguments_of : FlowNames → FlowForm → List ℕ
arguments_of names arguments = arguments_text (names_in names) (form_tree arguments)

abbrev pub side_of : FlowNames → Width → Bool → Bool → FlowForm → List ℕ
side_of names width right first form = side_text (names_in names) width right first (form_tree form)

abbrev pub comparison_of : FlowNames → FlowComparison → List ℕ
comparison_of names comparison = comparison_text (names_in names) (comparison_tree comparison)

-- ---- actions

abbrev pub target_of : FlowNames → ℕ → Bool → Option FlowForm → List ℕ
target_of names number first set = target_text (names_in names) number first (set_tree set)

abbrev pub targets_of : FlowNames → List (Option FlowForm) → List ℕ
targets_of names sets = targets_text (names_in names) 0 true (map set_tree sets)

abbrev pub value_of : FlowNames → ℕ → Bool → Option FlowForm → List ℕ
value_of names number first set = value_text (names_in names) number first (set_tree set)

abbrev pub values_of : FlowNames → List (Option FlowForm) → List ℕ
values_of names sets = values_text (names_in names) 0 true (map set_tree sets)

abbrev pub results_of : FlowNames → List SortedForm → List ℕ
results_of names results = results_text (names_in names) true (map sorted_form results)

abbrev pub action_of : FlowNames → FlowAction → List ℕ
action_of names action = action_text (names_in names) (flow_action action)

-- ---- comments

abbrev pub test_line : FlowNames → ℕ → FlowComparison → List ℕ
test_line names number comparison = comment_text (test_comment (names_in names) (number, comparison_tree comparison))

abbrev pub test_lines : FlowNames → List FlowComparison → List ℕ
test_lines names tests = comments_text (map (test_comment (names_in names)) (enumerate_from 0 (map comparison_tree tests)))

abbrev pub action_line : FlowNames → ℕ → FlowAction → List ℕ
action_line names number action = comment_text (action_comment (names_in names) (number, flow_action action))

abbrev pub action_lines : FlowNames → List FlowAction → List ℕ
action_lines names actions = comments_text (map (action_comment (names_in names)) (enumerate_from 0 (map flow_action actions)))

-- the reason of a rule, where it is new
abbrev pub reason_line : Bool → FlowRule → List ℕ
reason_line shown rule = comments_text (if shown then (codes " " ++ reason_text (flow_rule rule)) ∷ [] else [])

abbrev pub is_new_at : List FlowRule → ℕ → FlowRule → Bool
is_new_at rules number rule = is_new (reason_before (map flow_rule rules) number) (flow_rule rule)

abbrev pub reason_lines : List FlowRule → ℕ → List ℕ
reason_lines rules number = comments_text (comments_before (map flow_rule rules) number)

abbrev pub hypothesis_lines : List FlowRule → ProblemParts → List ℕ
hypothesis_lines rules problem =
    commented_hyps plain_name (comments_from (map flow_rule rules) 0 (length problem.hyps)) problem.hyps

-- the text of a problem with its comments
abbrev pub IsTextOf : FlowNames → List FlowRule → ProblemParts → List FlowComparison → List FlowAction → Vec ℕ Global → Type 0
IsTextOf names rules problem tests actions text =
    text.items ≡ flow_text (names_in names) (map flow_rule rules)
    (record { problem = problem; tests = map comparison_tree tests; actions = map flow_action actions })
