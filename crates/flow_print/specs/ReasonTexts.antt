-- The reasons for hypotheses, as comments.
use Rattle.std.specs.Prelude.{ℕ, ◌-◌, List, [], ◌∷◌, ◌++◌, codes, map, slice_get, Bool, true, false, ◌&&◌, not, nat_eq, if◌then◌else◌, Option, Some, None}
use Rattle.std.specs.List.{range_with_len}
use Rattle.text_parser.specs.declared.meaning.Meaning.TheVariants.{Test, Action}
use Rattle.problem_file.specs.Questions.{plain_name}
use Rattle.flow_problem.specs.FlowFacts.{FlowRule, by_assignment, by_order, by_equality, by_three_ways, by_intervals, by_next_number}

-- a space and the name of a test
abbrev pub conjunction_line : ℕ → List ℕ
conjunction_line k = codes " " ++ plain_name (Test k)

abbrev pub and_tests : List ℕ → List ℕ
and_tests [] = []
and_tests (k ∷ ks) = conjunction_line k ++ and_tests ks

abbrev pub two_tests : ℕ → ℕ → List ℕ
two_tests i j = conjunction_line i ++ conjunction_line j

abbrev pub three_tests : ℕ → ℕ → ℕ → List ℕ
three_tests i j k = conjunction_line i ++ conjunction_line j ++ conjunction_line k

-- the reason for a hypothesis: the assignment, or the fact with its tests
abbrev pub reason_text : FlowRule → List ℕ
reason_text (by_assignment i j) = codes "assign " ++ plain_name (Action i) ++ conjunction_line j
reason_text (by_order i j) = codes "F2" ++ two_tests i j
reason_text (by_equality i j) = codes "F3" ++ two_tests i j
reason_text (by_three_ways i j k) = codes "F6" ++ three_tests i j k
reason_text (by_intervals ks) = codes "F9" ++ and_tests ks
reason_text (by_next_number i j k) = codes "F10" ++ three_tests i j k

-- whether two reasons are the same; intervals are of two or three tests
abbrev pub is_same_reason : FlowRule → FlowRule → Bool
is_same_reason (by_assignment i j) (by_assignment k l) = nat_eq i k && nat_eq j l
is_same_reason (by_order i j) (by_order k l) = nat_eq i k && nat_eq j l
is_same_reason (by_equality i j) (by_equality k l) = nat_eq i k && nat_eq j l
is_same_reason (by_three_ways i j n) (by_three_ways k l m) = nat_eq i k && (nat_eq j l && nat_eq n m)
is_same_reason (by_intervals (i ∷ j ∷ [])) (by_intervals (k ∷ l ∷ [])) = nat_eq i k && nat_eq j l
is_same_reason (by_intervals (i ∷ j ∷ n ∷ [])) (by_intervals (k ∷ l ∷ m ∷ [])) = nat_eq i k && (nat_eq j l && nat_eq n m)
is_same_reason (by_next_number i j n) (by_next_number k l m) = nat_eq i k && (nat_eq j l && nat_eq n m)
is_same_reason _ _ = false

-- whether a hypothesis has another reason than the one before it, if there is one
abbrev pub is_new : Option FlowRule → FlowRule → Bool
is_new None rule = true
is_new (Some before) rule = not (is_same_reason before rule)

-- the comment with a reason, if there is one and it is new
abbrev pub reason_comments : Option FlowRule → Option FlowRule → List (List ℕ)
reason_comments before None = []
reason_comments before (Some rule) = if is_new before rule then (codes " " ++ reason_text rule) ∷ [] else []

-- the reason of the hypothesis before hypothesis k, if there is one
abbrev pub reason_before : List FlowRule → ℕ → Option FlowRule
reason_before rules k = if nat_eq k 0 then None else slice_get rules (k - 1)

-- the comments before hypothesis k, and before each of n hypotheses from k on, where the hypotheses have these reasons
abbrev pub comments_before : List FlowRule → ℕ → List (List ℕ)
comments_before rules k = reason_comments (reason_before rules k) (slice_get rules k)

abbrev pub comments_from : List FlowRule → ℕ → ℕ → List (List (List ℕ))
comments_from rules k n = map (comments_before rules) (range_with_len k n)
