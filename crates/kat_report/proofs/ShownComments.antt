-- The text of an abstraction is the plainest text of its problem with comments, so it is read as this problem.
use Rattle.std.proofs.Common.{◌≡◌, ◌≤◌, ◌+◌, ℕ, List, [], ◌∷◌, ◌++◌, length, map, Bool, true, false, not, ◌&&◌, nat_eq, if◌then◌else◌, Option, Some, None, refl, sym, ap, ◌∙◌, subst, arith, append_assoc}
use mathlib.Core.Path.{ap₂}
use Rattle.std.specs.Prelude.{codes, flat_map, All}
use Rattle.std.specs.List.{zip, enumerate_from}
use Rattle.std.specs.Fmt.{decimal}
use Rattle.std.proofs.lemmas.List.{append-nil}
use Rattle.kat_model.specs.declared.limits.TheConstants.{MAX_HYPS, MAX_OPEN, MAX_TEXT_BYTES}
use Rattle.kat_model.specs.Trees.{Term}
use Rattle.kat_model.specs.Problems.{IsProblem}
use Rattle.text_parser.specs.declared.meaning.Meaning.{Meaning}
use Rattle.text_parser.specs.declared.meaning.Meaning.TheVariants.{Test, Action, Var}
use Rattle.text_parser.specs.ScopeParts.{ScopeParts, IsWellFormed}
use Rattle.text_print.specs.Printing.{name_of, term_nesting}
use Rattle.linear_forms.specs.Forms.{FormTree, constant, var_term, product_term}
use Rattle.linear_forms.specs.declared.comparison.Atomic.{Atomic}
use Rattle.linear_forms.specs.declared.comparison.Atomic.TheVariants.{Zero, Less}
use Rattle.problem_file.specs.Questions.{plain_name, tests_text, actions_text, hyp_text, goal_text}
use Rattle.problem_file.specs.CommentedTexts.{IsComment, comment_text, comments_text, Comments, commented_hyps, commented_text, AreComments, EachAreComments, AreOneLine}
use Rattle.problem_file.specs.TextLaws.{PosesEqual}
use Rattle.problem_file.proofs.Comments.{comment_nil, comment_append, comment_chosen, shown_comment, comment_decimal, name_is_comment, plain_test, plain_action}
use Rattle.problem_file.proofs.PlainNames.{plain_are_names}
use Rattle.problem_file.proofs.PlainReadings.{commented_reads_back}
use Rattle.abstraction.specs.Abstracts.{AbstractParts}
use Rattle.abstraction.specs.declared.rows.ActionRow.{ActionRow}
use Rattle.abstraction.specs.declared.rows.ActionRow.TheVariants as action
use Rattle.abstraction.specs.declared.rows.TestRow.{TestRow}
use Rattle.abstraction.specs.declared.rows.TestRow.TheVariants as test
use Rattle.abstraction.specs.declared.rule.Rule.{Rule}
use Rattle.abstraction.specs.declared.rule.Rule.TheVariants.{Stated, Assign, F1, F2, F3, F4, F5, F6}
use Rattle.kat_report.specs.Shows.{times_text, plus_text, sum_text, form_text, comparison_text, row_comment, test_comment, action_comment, conjunction_line, rule_text, rule_comment, is_new, hyps_text, show_text}

-- ---- the comments

-- the comment of a row, without its marks
abbrev row_words : Meaning → List ℕ → List ℕ
row_words m text = codes " " ++ plain_name m ++ codes " is " ++ text

abbrev rule_words : Rule → List ℕ
rule_words rule = codes " " ++ rule_text rule

-- a comment before the hypotheses with a rule, once
abbrev rule_comments : Option Rule → List Rule → List (List (List ℕ))
rule_comments before [] = []
rule_comments before (rule ∷ rules) = (if is_new before rule then rule_words rule ∷ [] else []) ∷ rule_comments (Some rule) rules

module _ (w : ScopeParts) where
  abbrev test_words : ℕ × TestRow → List ℕ
  test_words (k, test.Named n) = row_words (Test k) (name_of w (Test n))
  test_words (k, test.Compare a) = row_words (Test k) (comparison_text (name_of w) a)

  abbrev action_words : ℕ × ActionRow → List ℕ
  action_words (k, action.Named n) = row_words (Action k) (name_of w (Action n))
  action_words (k, action.Assign x f) = row_words (Action k) (name_of w (Var x) ++ codes " := " ++ form_text (name_of w) f)

  abbrev pub shown_comments : AbstractParts → Comments
  shown_comments a = record {
    tests = map test_words (enumerate_from 0 a.tests);
    actions = map action_words (enumerate_from 0 a.actions);
    hyps = rule_comments None a.rules;
  }

  -- ---- the text

  row_regrouped : (m : Meaning) (text : List ℕ) → row_comment m text ≡ comment_text (row_words m text)
  row_regrouped m text = simp append_assoc

  test_line : (x : ℕ × TestRow) → test_comment (name_of w) x ≡ comment_text (test_words x)
  test_line (k, test.Named n) = row_regrouped (Test k) (name_of w (Test n))
  test_line (k, test.Compare a) = row_regrouped (Test k) (comparison_text (name_of w) a)

  action_line : (x : ℕ × ActionRow) → action_comment (name_of w) x ≡ comment_text (action_words x)
  action_line (k, action.Named n) = row_regrouped (Action k) (name_of w (Action n))
  action_line (k, action.Assign x f) = row_regrouped (Action k) (name_of w (Var x) ++ codes " := " ++ form_text (name_of w) f)

  tests_lines : (xs : List (ℕ × TestRow)) → flat_map (test_comment (name_of w)) xs ≡ comments_text (map test_words xs)
  tests_lines [] = refl
  tests_lines (x ∷ xs) = ap₂ (λ (l : List ℕ). λ (r : List ℕ). l ++ r) (test_line x) (tests_lines xs)

  actions_lines : (xs : List (ℕ × ActionRow)) → flat_map (action_comment (name_of w)) xs ≡ comments_text (map action_words xs)
  actions_lines [] = refl
  actions_lines (x ∷ xs) = ap₂ (λ (l : List ℕ). λ (r : List ℕ). l ++ r) (action_line x) (actions_lines xs)

rule_line : (new : Bool) (rule : Rule) → rule_comment new rule ≡ comments_text (if new then rule_words rule ∷ [] else [])
rule_line true rule = simp (append_assoc, append-nil)
rule_line false rule = refl

hyps_lines : (before : Option Rule) (rules : List Rule) (es : List Term) → length rules ≡ length es → hyps_text before (zip rules es) ≡ commented_hyps plain_name (rule_comments before rules) es
hyps_lines before [] [] same = refl
hyps_lines before [] (e ∷ es) same = absurd (omega (arith, same))
hyps_lines before (rule ∷ rules) [] same = absurd (omega (arith, same))
hyps_lines before (rule ∷ rules) (e ∷ es) same =
    ap₂ (λ (l : List ℕ). λ (r : List ℕ). l ++ hyp_text plain_name e ++ r) (rule_line (is_new before rule) rule) (hyps_lines (Some rule) rules es (omega (arith, same)))

pub shown_is_commented : (w : ScopeParts) (a : AbstractParts) → length a.rules ≡ length a.problem.hyps → show_text w a ≡ commented_text plain_name (shown_comments w a) a.problem
shown_is_commented w a same =
    ap (λ (l : List ℕ). l ++ tests_text a.problem.tests ++ flat_map (action_comment (name_of w)) (enumerate_from 0 a.actions) ++ actions_text a.problem.actions ++ hyps_text None (zip a.rules a.problem.hyps) ++ goal_text plain_name a.problem.left a.problem.right)
    (tests_lines w (enumerate_from 0 a.tests))
    ∙ ap (λ (l : List ℕ). comments_text (map (test_words w) (enumerate_from 0 a.tests)) ++ tests_text a.problem.tests ++ l ++ actions_text a.problem.actions ++ hyps_text None (zip a.rules a.problem.hyps) ++ goal_text plain_name a.problem.left a.problem.right)
    (actions_lines w (enumerate_from 0 a.actions))
    ∙ ap (λ (l : List ℕ). comments_text (map (test_words w) (enumerate_from 0 a.tests)) ++ tests_text a.problem.tests ++ comments_text (map (action_words w) (enumerate_from 0 a.actions)) ++ actions_text a.problem.actions ++ l ++ goal_text plain_name a.problem.left a.problem.right)
    (hyps_lines None a.rules a.problem.hyps same)

-- ---- each comment is one line

and_test_line : (k : ℕ) → IsComment (conjunction_line k)
and_test_line k = comment_append (codes " ") (plain_name (Test k)) (shown_comment (codes " ") refl) (plain_test k)

two_tests : (word : List ℕ) (i j : ℕ) → IsComment word → IsComment (word ++ conjunction_line i ++ conjunction_line j)
two_tests word i j is = comment_append (word ++ conjunction_line i) (conjunction_line j) (comment_append word (conjunction_line i) is (and_test_line i)) (and_test_line j)

rule_line_is : (rule : Rule) → IsComment (rule_text rule)
rule_line_is (Stated k) = comment_append (codes "stated ") (decimal k) (shown_comment (codes "stated ") refl) (comment_decimal k)
rule_line_is (Assign i j) =
    comment_append (codes "assign " ++ plain_name (Action i)) (conjunction_line j) (comment_append (codes "assign ") (plain_name (Action i)) (shown_comment (codes "assign ") refl) (plain_action i)) (and_test_line j)
rule_line_is (F1 i j) = two_tests (codes "F1") i j (shown_comment (codes "F1") refl)
rule_line_is (F2 i j) = two_tests (codes "F2") i j (shown_comment (codes "F2") refl)
rule_line_is (F3 i j) = two_tests (codes "F3") i j (shown_comment (codes "F3") refl)
rule_line_is (F4 i j) = two_tests (codes "F4") i j (shown_comment (codes "F4") refl)
rule_line_is (F5 i j) = two_tests (codes "F5") i j (shown_comment (codes "F5") refl)
rule_line_is (F6 i j k) = comment_append (codes "F6" ++ conjunction_line i ++ conjunction_line j) (conjunction_line k) (two_tests (codes "F6") i j (shown_comment (codes "F6") refl)) (and_test_line k)

words_line : (rule : Rule) → IsComment (rule_words rule)
words_line rule = comment_append (codes " ") (rule_text rule) (shown_comment (codes " ") refl) (rule_line_is rule)

chosen_lines : (new : Bool) (rule : Rule) → AreComments (if new then rule_words rule ∷ [] else [])
chosen_lines true rule = (words_line rule, tt)
chosen_lines false rule = tt

rules_lines : (before : Option Rule) (rules : List Rule) → EachAreComments (rule_comments before rules)
rules_lines before [] = tt
rules_lines before (rule ∷ rules) = (chosen_lines (is_new before rule) rule, rules_lines (Some rule) rules)

row_line_is : (m : Meaning) (text : List ℕ) → IsComment (plain_name m) → IsComment text → IsComment (row_words m text)
row_line_is m text name is =
    comment_append (codes " " ++ plain_name m ++ codes " is ") text
    (comment_append (codes " " ++ plain_name m) (codes " is ") (comment_append (codes " ") (plain_name m) (shown_comment (codes " ") refl) name) (shown_comment (codes " is ") refl))
    is

module _ (w : ScopeParts) (well : IsWellFormed w) where
  named : (m : Meaning) → IsComment (name_of w m)
  named m = name_is_comment w well m

  plus_line : (first : Bool) → IsComment (plus_text first)
  plus_line first = comment_chosen first [] (codes " + ") comment_nil (shown_comment (codes " + ") refl)

  times_line : (t : ℕ) → IsComment (times_text t)
  times_line t = comment_chosen (nat_eq t 1) [] (decimal t ++ codes "*") comment_nil (comment_append (decimal t) (codes "*") (comment_decimal t) (shown_comment (codes "*") refl))

  sum_line : (f : FormTree) (first : Bool) → IsComment (sum_text (name_of w) first f)
  sum_line (constant c) first =
      comment_chosen (not first && nat_eq c 0) [] (plus_text first ++ decimal c) comment_nil (comment_append (plus_text first) (decimal c) (plus_line first) (comment_decimal c))
  sum_line (var_term k t rest) first =
      comment_append (plus_text first ++ times_text t ++ name_of w (Var k)) (sum_text (name_of w) false rest)
      (comment_append (plus_text first ++ times_text t) (name_of w (Var k)) (comment_append (plus_text first) (times_text t) (plus_line first) (times_line t)) (named (Var k)))
      (sum_line rest false)
  sum_line (product_term f g t rest) first =
      let a = plus_text first ++ times_text t in
      let b = a ++ codes "(" in
      let c = b ++ sum_text (name_of w) true f in
      let d = c ++ codes ")*(" in
      let e = d ++ sum_text (name_of w) true g in
      let h = e ++ codes ")" in
      let is_a : IsComment a = comment_append (plus_text first) (times_text t) (plus_line first) (times_line t) in
      let is_b : IsComment b = comment_append a (codes "(") is_a (shown_comment (codes "(") refl) in
      let is_c : IsComment c = comment_append b (sum_text (name_of w) true f) is_b (sum_line f true) in
      let is_d : IsComment d = comment_append c (codes ")*(") is_c (shown_comment (codes ")*(") refl) in
      let is_e : IsComment e = comment_append d (sum_text (name_of w) true g) is_d (sum_line g true) in
      let is_h : IsComment h = comment_append e (codes ")") is_e (shown_comment (codes ")") refl) in
      comment_append h (sum_text (name_of w) false rest) is_h (sum_line rest false)

  comparison_line : (a : Atomic) → IsComment (comparison_text (name_of w) a)
  comparison_line (Zero f) = comment_append (form_text (name_of w) f) (codes " == 0") (sum_line f true) (shown_comment (codes " == 0") refl)
  comparison_line (Less f g) =
      comment_append (form_text (name_of w) f ++ codes " < ") (form_text (name_of w) g)
      (comment_append (form_text (name_of w) f) (codes " < ") (sum_line f true) (shown_comment (codes " < ") refl))
      (sum_line g true)

  tests_are_lines : (n : ℕ) (rows : List TestRow) → AreComments (map (test_words w) (enumerate_from n rows))
  tests_are_lines n [] = tt
  tests_are_lines n (test.Named k ∷ rows) = (row_line_is (Test n) (name_of w (Test k)) (plain_test n) (named (Test k)), tests_are_lines (n + 1) rows)
  tests_are_lines n (test.Compare a ∷ rows) = (row_line_is (Test n) (comparison_text (name_of w) a) (plain_test n) (comparison_line a), tests_are_lines (n + 1) rows)

  set_line : (x : ℕ) (f : FormTree) → IsComment (name_of w (Var x) ++ codes " := " ++ form_text (name_of w) f)
  set_line x f =
      comment_append (name_of w (Var x) ++ codes " := ") (form_text (name_of w) f) (comment_append (name_of w (Var x)) (codes " := ") (named (Var x)) (shown_comment (codes " := ") refl)) (sum_line f true)

  actions_are_lines : (n : ℕ) (rows : List ActionRow) → AreComments (map (action_words w) (enumerate_from n rows))
  actions_are_lines n [] = tt
  actions_are_lines n (action.Named k ∷ rows) = (row_line_is (Action n) (name_of w (Action k)) (plain_action n) (named (Action k)), actions_are_lines (n + 1) rows)
  actions_are_lines n (action.Assign x f ∷ rows) = (row_line_is (Action n) (name_of w (Var x) ++ codes " := " ++ form_text (name_of w) f) (plain_action n) (set_line x f), actions_are_lines (n + 1) rows)

  pub shown_are_lines : (a : AbstractParts) → AreOneLine (shown_comments w a)
  shown_are_lines a = record { tests = tests_are_lines 0 a.tests; actions = actions_are_lines 0 a.actions; hyps = rules_lines None a.rules }

-- ---- the reading

-- the text of an abstraction is read as its problem, if it is within the limits of a text
pub shown_reads_back : (w : ScopeParts) (a : AbstractParts) → IsWellFormed w → length a.rules ≡ length a.problem.hyps → IsProblem a.problem → length a.problem.hyps ≤ MAX_HYPS
    → All (λ e. term_nesting e ≤ MAX_OPEN) (a.problem.left ∷ a.problem.right ∷ a.problem.hyps) → length (show_text w a) ≤ MAX_TEXT_BYTES → PosesEqual (show_text w a) a.problem
shown_reads_back w a well same problem hyps shallow short =
    let text = shown_is_commented w a same in
    subst (λ (l : List ℕ). PosesEqual l a.problem) (sym text)
    (commented_reads_back plain_name (shown_comments w a) a.problem (record {
      problem = problem;
      named = plain_are_names a.problem.tests a.problem.actions (omega (arith, problem.tests)) (omega (arith, problem.actions));
      hyps = hyps;
      shallow = shallow;
      comments = shown_are_lines w well a;
      short = subst (λ (l : List ℕ). length l ≤ MAX_TEXT_BYTES) text short;
    }))
