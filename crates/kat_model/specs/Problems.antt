-- The question of a problem, the limits that problems keep to, and the faults of other questions.
use Rattle.std.specs.Prelude.{ℕ, ◌+◌, ◌-◌, ◌^◌, ◌<◌, ◌≤◌, min, nat_lt, if◌then◌else◌, List, [], ◌∷◌, map, Option, Some, None}
use Rattle.std.specs.Option.{option_or, option_map}
use Rattle.kat_model.specs.Trees.{TestTree, bottom, top, prim, complement, meet, join, Term, zero, one, test, act, sum, product, star, term_size, kat_tree}
use Rattle.kat_model.specs.declared.limits.TheConstants.{MAX_TESTS, MAX_ACTIONS, MAX_TERM_NODES}
use Rattle.kat_model.specs.declared.tree.Kat.{Kat}
use Rattle.kat_model.specs.declared.problem.BadProblem.{BadProblem}
use Rattle.kat_model.specs.declared.problem.BadProblem.TheVariants.{TooManyTests, TooManyActions, TestRange, ActionRange, TooLarge}

-- the question whether two terms are the same if each hypothesis is zero
pub record ProblemParts : Type 0 where
  pub tests : ℕ
  pub actions : ℕ
  pub hyps : List Term
  pub left : Term
  pub right : Term

-- each primitive test is below the number of tests
abbrev pub IsTestInRange : ℕ → TestTree → Type 0
IsTestInRange tests bottom = Unit {0}
IsTestInRange tests top = Unit {0}
IsTestInRange tests (prim k) = k < tests
IsTestInRange tests (complement b) = IsTestInRange tests b
IsTestInRange tests (meet b c) = IsTestInRange tests b × IsTestInRange tests c
IsTestInRange tests (join b c) = IsTestInRange tests b × IsTestInRange tests c

-- each primitive test in the term is below n
abbrev pub HasTestsBelow : ℕ → Term → Type 0
HasTestsBelow n zero = Unit {0}
HasTestsBelow n one = Unit {0}
HasTestsBelow n (test b) = IsTestInRange n b
HasTestsBelow n (act a) = Unit {0}
HasTestsBelow n (sum e f) = HasTestsBelow n e × HasTestsBelow n f
HasTestsBelow n (product e f) = HasTestsBelow n e × HasTestsBelow n f
HasTestsBelow n (star e) = HasTestsBelow n e

-- each primitive test in the term is below the number of tests, and each action below the number of actions
abbrev pub IsInRange : ℕ → ℕ → Term → Type 0
IsInRange tests actions zero = Unit {0}
IsInRange tests actions one = Unit {0}
IsInRange tests actions (test b) = IsTestInRange tests b
IsInRange tests actions (act a) = a < actions
IsInRange tests actions (sum e f) = IsInRange tests actions e × IsInRange tests actions f
IsInRange tests actions (product e f) = IsInRange tests actions e × IsInRange tests actions f
IsInRange tests actions (star e) = IsInRange tests actions e

abbrev pub AreInRange : ℕ → ℕ → List Term → Type 0
AreInRange tests actions [] = Unit {0}
AreInRange tests actions (e ∷ es) = IsInRange tests actions e × AreInRange tests actions es

abbrev pub terms_size : List Term → ℕ
terms_size [] = 0
terms_size (e ∷ es) = term_size e + terms_size es

-- the number of nodes of the hypotheses and both sides
abbrev pub problem_size : ProblemParts → ℕ
problem_size q = terms_size q.hyps + term_size q.left + term_size q.right

-- the question is within the limits of a problem
pub record IsProblem (q : ProblemParts) : Type 0 where
  pub tests : q.tests ≤ MAX_TESTS
  pub actions : q.actions ≤ MAX_ACTIONS
  pub hyps : AreInRange q.tests q.actions q.hyps
  pub left : IsInRange q.tests q.actions q.left
  pub right : IsInRange q.tests q.actions q.right
  pub size : problem_size q ≤ MAX_TERM_NODES

-- the first primitive test out of range, in preorder
abbrev pub first_test_out : ℕ → TestTree → Option ℕ
first_test_out tests bottom = None
first_test_out tests top = None
first_test_out tests (prim k) = if nat_lt k tests then None else Some k
first_test_out tests (complement b) = first_test_out tests b
first_test_out tests (meet b c) = option_or (first_test_out tests b) (first_test_out tests c)
first_test_out tests (join b c) = option_or (first_test_out tests b) (first_test_out tests c)

-- the first number out of range, in preorder
abbrev pub first_out : ℕ → ℕ → Term → Option BadProblem
first_out tests actions zero = None
first_out tests actions one = None
first_out tests actions (test b) = option_map TestRange (first_test_out tests b)
first_out tests actions (act a) = if nat_lt a actions then None else Some (ActionRange a)
first_out tests actions (sum e f) = option_or (first_out tests actions e) (first_out tests actions f)
first_out tests actions (product e f) = option_or (first_out tests actions e) (first_out tests actions f)
first_out tests actions (star e) = first_out tests actions e

abbrev pub first_out_of_all : ℕ → ℕ → List Term → Option BadProblem
first_out_of_all tests actions [] = None
first_out_of_all tests actions (e ∷ es) = option_or (first_out tests actions e) (first_out_of_all tests actions es)

-- the number of nodes, at most 2^64 - 1
abbrev pub counted : ℕ → ℕ
counted n = min n (2 ^ 64 - 1)

abbrev pub bad_above : ℕ → ℕ → BadProblem → Option BadProblem
bad_above limit n bad = if nat_lt limit n then Some bad else None

-- the first reason why the question does not form a problem
abbrev pub problem_fault : ProblemParts → Option BadProblem
problem_fault q =
    option_or (bad_above MAX_TESTS q.tests (TooManyTests q.tests))
    (option_or (bad_above MAX_ACTIONS q.actions (TooManyActions q.actions))
    (option_or (first_out_of_all q.tests q.actions q.hyps)
    (option_or (first_out q.tests q.actions q.left)
    (option_or (first_out q.tests q.actions q.right)
    (bad_above MAX_TERM_NODES (problem_size q) (TooLarge (counted (problem_size q))))))))

-- the question of a problem with these parts
abbrev pub problem_parts : ℕ → ℕ → List Kat → Kat → Kat → ProblemParts
problem_parts tests actions hyps left right =
    record { tests = tests; actions = actions; hyps = map kat_tree hyps; left = kat_tree left; right = kat_tree right }
