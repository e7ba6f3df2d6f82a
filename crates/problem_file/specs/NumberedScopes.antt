-- Scopes with plain names only: tests are named t0, t1, .. and actions a0, a1, .. by their numbers.
use Rattle.std.specs.Prelude.{ℕ, zero, suc}
use Rattle.text_parser.specs.declared.meaning.Meaning.TheVariants.{Test, Action}
use Rattle.text_parser.specs.ScopeParts.{ScopeParts, empty_scope, declared}
use Rattle.problem_file.specs.Questions.{plain_name}

-- the scope of a number of tests and nothing else
abbrev pub tests_scope : ℕ → ScopeParts
tests_scope zero = empty_scope
tests_scope (suc k) = declared (tests_scope k) (plain_name (Test k)) (Test k)

-- the scope of a number of tests and a number of actions, and nothing else
abbrev pub numbered_scope : ℕ → ℕ → ScopeParts
numbered_scope tests zero = tests_scope tests
numbered_scope tests (suc a) = declared (numbered_scope tests a) (plain_name (Action a)) (Action a)
