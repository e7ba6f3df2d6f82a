-- The abstraction of a file: a problem of terms, and the meanings of its tests, actions and hypotheses.
use Rattle.std.specs.Prelude.{◌≡◌, ◌+◌, List, ◌++◌, length, map, nat_lt, if◌then◌else◌, Result, Ok, Err}
use Rattle.std.specs.List.{range_with_len}
use Rattle.kat_model.specs.declared.expression.Width.{Width}
use Rattle.kat_model.specs.declared.limits.TheConstants.{MAX_TESTS, MAX_ACTIONS, MAX_TERM_NODES}
use Rattle.kat_model.specs.Problems.{ProblemParts, AreInRange, problem_size}
use Rattle.while_lang.specs.Files.{FileParts, GoalTree}
use Rattle.while_lang.specs.Ranges.{IsGoalInRange}
use Rattle.abstraction.specs.declared.rows.ActionRow.{ActionRow}
use Rattle.abstraction.specs.declared.rows.ActionRow.TheVariants as action
use Rattle.abstraction.specs.declared.rows.TestRow.{TestRow}
use Rattle.abstraction.specs.declared.rows.TestRow.TheVariants as test
use Rattle.abstraction.specs.declared.rule.Rule.{Rule}
use Rattle.abstraction.specs.declared.fault.AbstractFault.{AbstractFault}
use Rattle.abstraction.specs.declared.fault.AbstractFault.TheVariants.{NoMemory, TooManyTests, TooManyActions, ProblemTooLarge}
use Rattle.abstraction.specs.Tables.{Tables, first_comparisons, file_assignments}
use Rattle.abstraction.specs.Rounds.{tables_of}
use Rattle.abstraction.specs.Goals.{goal_sides}
use Rattle.abstraction.specs.Derived.{hypotheses}

-- the problem; the meaning of each test and action, by their numbers; the rule of each hypothesis; the width of numbers
pub record AbstractParts : Type 0 where
  pub problem : ProblemParts
  pub actions : List ActionRow
  pub tests : List TestRow
  pub rules : List Rule
  pub width : Width

-- the declared tests or actions by their numbers, then the comparisons or the assignments
abbrev pub test_rows_of : Tables → List TestRow
test_rows_of t = map test.Named (range_with_len 0 t.tests) ++ map test.Compare t.comparisons

abbrev pub action_rows_of : Tables → List ActionRow
action_rows_of t = map action.Named (range_with_len 0 t.actions) ++ map (λ a. action.Assign a.var a.form) t.assignments

-- the problem of a file
abbrev pub file_problem : FileParts → ProblemParts
file_problem f = record {
  tests = f.tests + length (tables_of f).comparisons;
  actions = f.actions + length (tables_of f).assignments;
  hyps = map (λ h. h.term) (hypotheses (tables_of f) f.hyps);
  left = (goal_sides (tables_of f) f.goal).left;
  right = (goal_sides (tables_of f) f.goal).right;
}

abbrev pub abstract_parts : FileParts → AbstractParts
abstract_parts f = record {
  problem = file_problem f;
  actions = action_rows_of (tables_of f);
  tests = test_rows_of (tables_of f);
  rules = map (λ h. h.rule) (hypotheses (tables_of f) f.hyps);
  width = f.width;
}

-- the abstraction of a file, or the reason for its absence: there are more than `MAX_TESTS` tests before the rounds, or
-- there are more than `MAX_ACTIONS` actions, or the problem has more than `MAX_TERM_NODES` nodes
abbrev pub abstract_of : FileParts → Result AbstractParts AbstractFault
abstract_of f =
    if nat_lt MAX_TESTS (f.tests + length (first_comparisons f)) then Err TooManyTests
    else if nat_lt MAX_ACTIONS (f.actions + length (file_assignments f)) then Err TooManyActions
    else if nat_lt MAX_TERM_NODES (problem_size (file_problem f)) then Err ProblemTooLarge
    else Ok (abstract_parts f)

-- the result for a file: its abstraction, or out of memory, or the reason for its absence
abbrev pub IsAbstraction : FileParts → Result AbstractParts AbstractFault → Type 0
IsAbstraction f (Ok a) = abstract_of f ≡ Ok a
IsAbstraction f (Err NoMemory) = Unit {0}
IsAbstraction f (Err fault) = abstract_of f ≡ Err fault

-- the file with another goal
abbrev pub with_goal : FileParts → GoalTree → FileParts
with_goal f goal = record f { goal = goal }

-- the stated hypotheses and the goal use only declared tests, actions and variables
pub record HasNumbersInRange (f : FileParts) : Type 0 where
  pub hyps : AreInRange f.tests f.actions f.hyps
  pub goal : IsGoalInRange f.tests f.actions f.vars f.goal
