-- Each comment of a flow problem is one line, so the text is read as its problem.
use Rattle.std.proofs.Common.{◌+◌, ℕ, zero, suc, List, [], ◌∷◌, ◌++◌, length, map, Bool, true, false, not, ◌&&◌, nat_eq, if◌then◌else◌, Option, Some, None, slice_get, refl, arith}
use Rattle.std.specs.Prelude.{codes, All}
use Rattle.std.specs.List.{enumerate_from}
use Rattle.std.specs.Fmt.{decimal}
use Rattle.kat_model.specs.declared.expression.Width.{Width}
use Rattle.kat_model.specs.declared.expression.Width.TheVariants.{W8, W16, W32, W64}
use Rattle.flow_model.specs.declared.sort.Sort.{Sort}
use Rattle.text_parser.specs.declared.token.Kind.TheVariants.{Name}
use Rattle.text_parser.specs.Kinds.{IsToken}
use Rattle.text_parser.specs.declared.meaning.Meaning.{Meaning}
use Rattle.text_parser.specs.declared.meaning.Meaning.TheVariants.{Test, Action}
use Rattle.problem_file.specs.Questions.{plain_name}
use Rattle.problem_file.specs.CommentedTexts.{IsComment, AreComments, EachAreComments, AreOneLine}
use Rattle.problem_file.specs.TextLaws.{PosesEqual}
use Rattle.problem_file.proofs.Comments.{comment_nil, comment_append, comment_chosen, shown_comment, comment_decimal, comment_name, plain_test, plain_action}
use Rattle.problem_file.proofs.PlainNames.{plain_are_names}
use Rattle.problem_file.proofs.PlainReadings.{commented_reads_back}
use Rattle.flow_forms.specs.Forms.{FlowFormTree, constant, term, one, factor, variable, applied, converted, no_arguments, argument}
use Rattle.flow_forms.specs.Comparisons.{FlowComparisonTree, zero_form, less_form, same_form}
use Rattle.flow_problem.specs.Edges.{FlowActionTree, assigned, given}
use Rattle.flow_problem.specs.FlowFacts.{FlowRule, by_assignment, by_order, by_equality, by_three_ways, by_intervals, by_next_number}
use Rattle.flow_problem.specs.Points.{FlowProblem}
use Rattle.flow_print.specs.NameTables.{NameTable, name_or, variable_text, variable_width, function_text, sort_width}
use Rattle.flow_print.specs.FormTexts.{is_minus, magnitude, comma_text, star_text, plus_text, minus_text, sign_text, times_text, constant_text, one_text, width_text, conversion_text, is_long, arguments_text, part_text, form_text, side_number, side_end, is_on_side, side_text, comparison_text}
use Rattle.flow_print.specs.ActionTexts.{stays_first, target_text, targets_text, value_text, values_text, results_text, action_text}
use Rattle.flow_print.specs.ReasonTexts.{conjunction_line, and_tests, two_tests, three_tests, reason_text, is_new, reason_comments, reason_before, comments_from}
use Rattle.flow_print.specs.FlowTexts.{row_comment, test_comment, action_comment, flow_comments, flow_text, AreLines, IsFlowPrintable}

-- ---- names

name_line : (word : List ℕ) (k : ℕ) (names : List (List ℕ)) (i : ℕ) → IsComment word → AreComments names → IsComment (name_or word k (slice_get names i))
name_line word k [] i is all = comment_append word (decimal k) is (comment_decimal k)
name_line word k (name ∷ names) zero is all = all.0
name_line word k (name ∷ names) (suc i) is all = name_line word k names i is all.1

-- names of the grammar are lines
pub token_lines : (names : List (List ℕ)) → All (λ (n : List ℕ). IsToken Name n) names → AreComments names
token_lines [] all = tt
token_lines (name ∷ names) all = (comment_name name (all 0 name (omega arith)), token_lines names (λ k d below. all (suc k) d (omega arith)))

-- ---- signs and numbers

comma_line : (first : Bool) → IsComment (comma_text first)
comma_line first = comment_chosen first [] (codes ", ") comment_nil (shown_comment (codes ", ") refl)

star_line : (first : Bool) → IsComment (star_text first)
star_line first = comment_chosen first [] (codes "*") comment_nil (shown_comment (codes "*") refl)

plus_line : (first : Bool) → IsComment (plus_text first)
plus_line first = comment_chosen first [] (codes " + ") comment_nil (shown_comment (codes " + ") refl)

minus_line : (first : Bool) → IsComment (minus_text first)
minus_line first = comment_chosen first (codes "0 - ") (codes " - ") (shown_comment (codes "0 - ") refl) (shown_comment (codes " - ") refl)

sign_line : (w : Width) (first : Bool) (t : ℕ) → IsComment (sign_text w first t)
sign_line w first t = comment_chosen (is_minus w t) (minus_text first) (plus_text first) (minus_line first) (plus_line first)

times_line : (t : ℕ) → IsComment (times_text t)
times_line t = comment_chosen (nat_eq t 1) [] (decimal t ++ codes "*") comment_nil (comment_append (decimal t) (codes "*") (comment_decimal t) (shown_comment (codes "*") refl))

constant_line : (w : Width) (first : Bool) (c : ℕ) → IsComment (constant_text w first c)
constant_line w first c =
    comment_chosen first (decimal c) (if nat_eq c 0 then [] else sign_text w false c ++ decimal (magnitude w c)) (comment_decimal c)
    (comment_chosen (nat_eq c 0) [] (sign_text w false c ++ decimal (magnitude w c)) comment_nil
    (comment_append (sign_text w false c) (decimal (magnitude w c)) (sign_line w false c) (comment_decimal (magnitude w c))))

one_line : (first : Bool) → IsComment (one_text first)
one_line first = comment_chosen first (codes "1") [] (shown_comment (codes "1") refl) comment_nil

width_line : (w : Width) → IsComment (width_text w)
width_line W8 = shown_comment (codes "8") refl
width_line W16 = shown_comment (codes "16") refl
width_line W32 = shown_comment (codes "32") refl
width_line W64 = shown_comment (codes "64") refl

conversion_line : (signed : Bool) (to : Width) → IsComment (conversion_text signed to)
conversion_line signed to =
    comment_append (if signed then codes "s" else codes "u") (width_text to)
    (comment_chosen signed (codes "s") (codes "u") (shown_comment (codes "s") refl) (shown_comment (codes "u") refl)) (width_line to)

three_lines : (a b c : List ℕ) → IsComment a → IsComment b → IsComment c → IsComment (a ++ b ++ c)
three_lines a b c is_a is_b is_c = comment_append (a ++ b) c (comment_append a b is_a is_b) is_c

four_lines : (a b c d : List ℕ) → IsComment a → IsComment b → IsComment c → IsComment d → IsComment (a ++ b ++ c ++ d)
four_lines a b c d is_a is_b is_c is_d = comment_append (a ++ b ++ c) d (three_lines a b c is_a is_b is_c) is_d

-- text in parentheses, after a line
enclosed : (before text : List ℕ) → IsComment before → IsComment text → IsComment (before ++ codes "(" ++ text ++ codes ")")
enclosed before text is also = four_lines before (codes "(") text (codes ")") is (shown_comment (codes "(") refl) also (shown_comment (codes ")") refl)

-- ---- forms, comparisons and actions

module _ (names : NameTable) (lines : AreLines names) where
  variable_line : (k : ℕ) → IsComment (variable_text names k)
  variable_line k = name_line (codes "variable") k names.variables k (shown_comment (codes "variable") refl) lines.variables

  function_line : (k : ℕ) → IsComment (function_text names k)
  function_line k = name_line (codes "function") k names.functions k (shown_comment (codes "function") refl) lines.functions

  part_line : (f : FlowFormTree) (w : Width) (first : Bool) → IsComment (part_text names w first f)
  part_line (constant c) w first = constant_line w first c
  part_line (term t p rest) w first =
      four_lines (sign_text w first t) (times_text (magnitude w t)) (part_text names w true p) (part_text names w false rest)
      (sign_line w first t) (times_line (magnitude w t)) (part_line p w true) (part_line rest w false)
  part_line one w first = one_line first
  part_line (factor c rest) w first =
      three_lines (star_text first) (part_text names w true c) (part_text names w false rest) (star_line first) (part_line c w true) (part_line rest w false)
  part_line (variable k) w first = variable_line k
  part_line (applied f result args) w first =
      comment_append (function_text names f) (arguments_text names args) (function_line f)
      (comment_chosen (is_long args) (codes "(..)") (codes "(" ++ part_text names W64 true args ++ codes ")") (shown_comment (codes "(..)") refl)
      (enclosed [] (part_text names W64 true args) comment_nil (part_line args W64 true)))
  part_line (converted signed from to f) w first =
      enclosed (conversion_text signed to) (part_text names from true f) (conversion_line signed to) (part_line f from true)
  part_line no_arguments w first = comment_nil
  part_line (argument sort f rest) w first =
      three_lines (comma_text first) (part_text names (sort_width sort) true f) (part_text names w false rest)
      (comma_line first) (part_line f (sort_width sort) true) (part_line rest w false)

  end_line : (first : Bool) (n : ℕ) → IsComment (side_end first n)
  end_line first n =
      comment_chosen (not first && nat_eq n 0) [] (plus_text first ++ decimal n) comment_nil (comment_append (plus_text first) (decimal n) (plus_line first) (comment_decimal n))

  side_line : (f : FlowFormTree) (w : Width) (right first : Bool) → IsComment (side_text names w right first f)
  side_line (constant c) w right first = end_line first (side_number w right c)
  side_line (term t p rest) w right first =
      comment_chosen (is_on_side right (is_minus w t)) (plus_text first ++ times_text (magnitude w t) ++ part_text names w true p ++ side_text names w right false rest)
      (side_text names w right first rest)
      (four_lines (plus_text first) (times_text (magnitude w t)) (part_text names w true p) (side_text names w right false rest)
      (plus_line first) (times_line (magnitude w t)) (part_line p w true) (side_line rest w right false))
      (side_line rest w right first)
  side_line one w right first = part_line one w first
  side_line (factor c rest) w right first = part_line (factor c rest) w first
  side_line (variable k) w right first = part_line (variable k) w first
  side_line (applied f result args) w right first = part_line (applied f result args) w first
  side_line (converted signed from to f) w right first = part_line (converted signed from to f) w first
  side_line no_arguments w right first = part_line no_arguments w first
  side_line (argument sort f rest) w right first = part_line (argument sort f rest) w first

  comparison_line : (c : FlowComparisonTree) → IsComment (comparison_text names c)
  comparison_line (zero_form w f) =
      three_lines (side_text names w false true f) (codes " == ") (side_text names w true true f) (side_line f w false true) (shown_comment (codes " == ") refl) (side_line f w true true)
  comparison_line (less_form w f g) =
      three_lines (form_text names w f) (codes " < ") (form_text names w g) (part_line f w true) (shown_comment (codes " < ") refl) (part_line g w true)
  comparison_line (same_form f g) =
      three_lines (form_text names W64 f) (codes " == ") (form_text names W64 g) (part_line f W64 true) (shown_comment (codes " == ") refl) (part_line g W64 true)

  target_line : (k : ℕ) (first : Bool) (o : Option FlowFormTree) → IsComment (target_text names k first o)
  target_line k first None = comment_nil
  target_line k first (Some f) = comment_append (comma_text first) (variable_text names k) (comma_line first) (variable_line k)

  targets_line : (k : ℕ) (first : Bool) (os : List (Option FlowFormTree)) → IsComment (targets_text names k first os)
  targets_line k first [] = comment_nil
  targets_line k first (o ∷ os) =
      comment_append (target_text names k first o) (targets_text names (k + 1) (stays_first first o) os) (target_line k first o) (targets_line (k + 1) (stays_first first o) os)

  value_line : (k : ℕ) (first : Bool) (o : Option FlowFormTree) → IsComment (value_text names k first o)
  value_line k first None = comment_nil
  value_line k first (Some f) = comment_append (comma_text first) (form_text names (variable_width names k) f) (comma_line first) (part_line f (variable_width names k) true)

  values_line : (k : ℕ) (first : Bool) (os : List (Option FlowFormTree)) → IsComment (values_text names k first os)
  values_line k first [] = comment_nil
  values_line k first (o ∷ os) =
      comment_append (value_text names k first o) (values_text names (k + 1) (stays_first first o) os) (value_line k first o) (values_line (k + 1) (stays_first first o) os)

  results_line : (first : Bool) (rs : List (Sort × FlowFormTree)) → IsComment (results_text names first rs)
  results_line first [] = comment_nil
  results_line first (r ∷ rs) =
      three_lines (comma_text first) (form_text names (sort_width r.0) r.1) (results_text names false rs) (comma_line first) (part_line r.1 (sort_width r.0) true) (results_line false rs)

  action_line : (a : FlowActionTree) → IsComment (action_text names a)
  action_line (assigned os) =
      three_lines (targets_text names 0 true os) (codes " := ") (values_text names 0 true os) (targets_line 0 true os) (shown_comment (codes " := ") refl) (values_line 0 true os)
  action_line (given rs) = comment_append (codes "return ") (results_text names true rs) (shown_comment (codes "return ") refl) (results_line true rs)

-- ---- rows and reasons

row_line : (m : Meaning) (text : List ℕ) → IsComment (plain_name m) → IsComment text → IsComment (row_comment m text)
row_line m text name is = four_lines (codes " ") (plain_name m) (codes " is ") text (shown_comment (codes " ") refl) name (shown_comment (codes " is ") refl) is

and_line : (k : ℕ) → IsComment (conjunction_line k)
and_line k = comment_append (codes " ") (plain_name (Test k)) (shown_comment (codes " ") refl) (plain_test k)

ands_line : (ks : List ℕ) → IsComment (and_tests ks)
ands_line [] = comment_nil
ands_line (k ∷ ks) = comment_append (conjunction_line k) (and_tests ks) (and_line k) (ands_line ks)

two_line : (i j : ℕ) → IsComment (two_tests i j)
two_line i j = comment_append (conjunction_line i) (conjunction_line j) (and_line i) (and_line j)

three_line : (i j k : ℕ) → IsComment (three_tests i j k)
three_line i j k = three_lines (conjunction_line i) (conjunction_line j) (conjunction_line k) (and_line i) (and_line j) (and_line k)

reason_line : (rule : FlowRule) → IsComment (reason_text rule)
reason_line (by_assignment i j) = three_lines (codes "assign ") (plain_name (Action i)) (conjunction_line j) (shown_comment (codes "assign ") refl) (plain_action i) (and_line j)
reason_line (by_order i j) = comment_append (codes "F2") (two_tests i j) (shown_comment (codes "F2") refl) (two_line i j)
reason_line (by_equality i j) = comment_append (codes "F3") (two_tests i j) (shown_comment (codes "F3") refl) (two_line i j)
reason_line (by_three_ways i j k) = comment_append (codes "F6") (three_tests i j k) (shown_comment (codes "F6") refl) (three_line i j k)
reason_line (by_intervals ks) = comment_append (codes "F9") (and_tests ks) (shown_comment (codes "F9") refl) (ands_line ks)
reason_line (by_next_number i j k) = comment_append (codes "F10") (three_tests i j k) (shown_comment (codes "F10") refl) (three_line i j k)

chosen_lines : (b : Bool) (text : List ℕ) → IsComment text → AreComments (if b then text ∷ [] else [])
chosen_lines true text is = (is, tt)
chosen_lines false text is = tt

comments_lines : (before after : Option FlowRule) → AreComments (reason_comments before after)
comments_lines before None = tt
comments_lines before (Some rule) =
    chosen_lines (is_new before rule) (codes " " ++ reason_text rule) (comment_append (codes " ") (reason_text rule) (shown_comment (codes " ") refl) (reason_line rule))

reasons_lines : (rules : List FlowRule) (k n : ℕ) → EachAreComments (comments_from rules k n)
reasons_lines rules k zero = tt
reasons_lines rules k (suc n) = (comments_lines (reason_before rules k) (slice_get rules k), reasons_lines rules (k + 1) n)

module _ (names : NameTable) (lines : AreLines names) where
  tests_lines : (n : ℕ) (cs : List FlowComparisonTree) → AreComments (map (test_comment names) (enumerate_from n cs))
  tests_lines n [] = tt
  tests_lines n (c ∷ cs) = (row_line (Test n) (comparison_text names c) (plain_test n) (comparison_line names lines c), tests_lines (n + 1) cs)

  actions_lines : (n : ℕ) (xs : List FlowActionTree) → AreComments (map (action_comment names) (enumerate_from n xs))
  actions_lines n [] = tt
  actions_lines n (a ∷ xs) = (row_line (Action n) (action_text names a) (plain_action n) (action_line names lines a), actions_lines (n + 1) xs)

  comments_are_lines : (rules : List FlowRule) (p : FlowProblem) → AreOneLine (flow_comments names rules p)
  comments_are_lines rules p = record { tests = tests_lines 0 p.tests; actions = actions_lines 0 p.actions; hyps = reasons_lines rules 0 (length p.problem.hyps) }

-- ---- the reading

-- the text of a flow problem is read as its problem, if it is within the limits of a text
pub flow_reads_back : (names : NameTable) (rules : List FlowRule) (p : FlowProblem) → IsFlowPrintable names rules p → PosesEqual (flow_text names rules p) p.problem
flow_reads_back names rules p printable =
    commented_reads_back plain_name (flow_comments names rules p) p.problem (record {
      problem = printable.problem;
      named = plain_are_names p.problem.tests p.problem.actions (omega (arith, printable.problem.tests)) (omega (arith, printable.problem.actions));
      hyps = printable.hyps;
      shallow = printable.shallow;
      comments = comments_are_lines names printable.lines rules p;
      short = printable.short;
    })
