-- The text of an abstraction: its problem as terms over plain names, and the meanings of its tests, actions and
-- hypotheses in comments.
use Rattle.std.specs.Prelude.{ℕ, List, [], ◌∷◌, ◌++◌, codes, Bool, true, false, ◌&&◌, not, nat_eq, if◌then◌else◌, flat_map, Option, Some, None}
use Rattle.std.specs.List.{zip, enumerate_from}
use Rattle.std.specs.Fmt.{decimal}
use Rattle.kat_model.specs.Trees.{Term}
use Rattle.text_parser.specs.declared.meaning.Meaning.{Meaning}
use Rattle.text_parser.specs.declared.meaning.Meaning.TheVariants.{Test, Action, Var}
use Rattle.text_parser.specs.ScopeParts.{ScopeParts}
use Rattle.text_print.specs.Printing.{name_of}
use Rattle.linear_forms.specs.Forms.{FormTree, constant, var_term, product_term}
use Rattle.linear_forms.specs.declared.comparison.Atomic.{Atomic}
use Rattle.linear_forms.specs.declared.comparison.Atomic.TheVariants.{Zero, Less}
use Rattle.problem_file.specs.Questions.{plain_name, tests_text, actions_text, hyp_text, goal_text}
use Rattle.abstraction.specs.Abstracts.{AbstractParts}
use Rattle.abstraction.specs.declared.rows.ActionRow.{ActionRow}
use Rattle.abstraction.specs.declared.rows.ActionRow.TheVariants as action
use Rattle.abstraction.specs.declared.rows.TestRow.{TestRow}
use Rattle.abstraction.specs.declared.rows.TestRow.TheVariants as test
use Rattle.abstraction.specs.declared.rule.Rule.{Rule}
use Rattle.abstraction.specs.declared.rule.Rule.TheVariants.{Stated, Assign, F1, F2, F3, F4, F5, F6}

-- ---- forms

-- a coefficient before its monomial; 1 is not written
abbrev pub times_text : ℕ → List ℕ
times_text t = if nat_eq t 1 then [] else decimal t ++ codes "*"

-- the text before a part of a sum, unless the part is the first
abbrev pub plus_text : Bool → List ℕ
plus_text first = if first then [] else codes " + "

-- the terms of a form, then its constant, which is omitted if it is 0 and there is a term
abbrev pub sum_text : (Meaning → List ℕ) → Bool → FormTree → List ℕ
sum_text names first (constant c) = if not first && nat_eq c 0 then [] else plus_text first ++ decimal c
sum_text names first (var_term k t rest) = plus_text first ++ times_text t ++ names (Var k) ++ sum_text names false rest
sum_text names first (product_term f g t rest) =
    plus_text first ++ times_text t ++ codes "(" ++ sum_text names true f ++ codes ")*(" ++ sum_text names true g ++ codes ")" ++ sum_text names false rest

abbrev pub form_text : (Meaning → List ℕ) → FormTree → List ℕ
form_text names f = sum_text names true f

abbrev pub comparison_text : (Meaning → List ℕ) → Atomic → List ℕ
comparison_text names (Zero f) = form_text names f ++ codes " == 0"
comparison_text names (Less f g) = form_text names f ++ codes " < " ++ form_text names g

-- ---- comments

-- `# NAME is TEXT`, the meaning of a test or an action
abbrev pub row_comment : Meaning → List ℕ → List ℕ
row_comment m text = codes "# " ++ plain_name m ++ codes " is " ++ text ++ codes "\n"

abbrev pub test_comment : (Meaning → List ℕ) → ℕ × TestRow → List ℕ
test_comment names (k, test.Named n) = row_comment (Test k) (names (Test n))
test_comment names (k, test.Compare a) = row_comment (Test k) (comparison_text names a)

abbrev pub action_comment : (Meaning → List ℕ) → ℕ × ActionRow → List ℕ
action_comment names (k, action.Named n) = row_comment (Action k) (names (Action n))
action_comment names (k, action.Assign x f) = row_comment (Action k) (names (Var x) ++ codes " := " ++ form_text names f)

-- a space and the name of a test
abbrev pub conjunction_line : ℕ → List ℕ
conjunction_line k = codes " " ++ plain_name (Test k)

-- the reason for a hypothesis
abbrev pub rule_text : Rule → List ℕ
rule_text (Stated k) = codes "stated " ++ decimal k
rule_text (Assign i j) = codes "assign " ++ plain_name (Action i) ++ conjunction_line j
rule_text (F1 i j) = codes "F1" ++ conjunction_line i ++ conjunction_line j
rule_text (F2 i j) = codes "F2" ++ conjunction_line i ++ conjunction_line j
rule_text (F3 i j) = codes "F3" ++ conjunction_line i ++ conjunction_line j
rule_text (F4 i j) = codes "F4" ++ conjunction_line i ++ conjunction_line j
rule_text (F5 i j) = codes "F5" ++ conjunction_line i ++ conjunction_line j
rule_text (F6 i j k) = codes "F6" ++ conjunction_line i ++ conjunction_line j ++ conjunction_line k

-- the comment with a rule, once before the hypotheses with that rule
abbrev pub rule_comment : Bool → Rule → List ℕ
rule_comment new rule = if new then codes "# " ++ rule_text rule ++ codes "\n" else []

-- whether two rules are the same
abbrev pub is_same_rule : Rule → Rule → Bool
is_same_rule (Stated i) (Stated k) = nat_eq i k
is_same_rule (Assign i j) (Assign k l) = nat_eq i k && nat_eq j l
is_same_rule (F1 i j) (F1 k l) = nat_eq i k && nat_eq j l
is_same_rule (F2 i j) (F2 k l) = nat_eq i k && nat_eq j l
is_same_rule (F3 i j) (F3 k l) = nat_eq i k && nat_eq j l
is_same_rule (F4 i j) (F4 k l) = nat_eq i k && nat_eq j l
is_same_rule (F5 i j) (F5 k l) = nat_eq i k && nat_eq j l
is_same_rule (F6 i j n) (F6 k l m) = nat_eq i k && (nat_eq j l && nat_eq n m)
is_same_rule _ _ = false

-- whether a hypothesis has a different rule from the one before it, if there is one
abbrev pub is_new : Option Rule → Rule → Bool
is_new None rule = true
is_new (Some before) rule = not (is_same_rule before rule)

-- the hypotheses, each after the comment with its rule if that rule is new
abbrev pub hyps_text : Option Rule → List (Rule × Term) → List ℕ
hyps_text before [] = []
hyps_text before ((rule, e) ∷ rest) = rule_comment (is_new before rule) rule ++ hyp_text plain_name e ++ hyps_text (Some rule) rest

-- ---- the whole

abbrev pub show_text : ScopeParts → AbstractParts → List ℕ
show_text w a =
    flat_map (test_comment (name_of w)) (enumerate_from 0 a.tests) ++ tests_text a.problem.tests
    ++ flat_map (action_comment (name_of w)) (enumerate_from 0 a.actions) ++ actions_text a.problem.actions
    ++ hyps_text None (zip a.rules a.problem.hyps) ++ goal_text plain_name a.problem.left a.problem.right
