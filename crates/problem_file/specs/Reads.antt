-- The file that bytes denote, and the first fault of bytes that denote no file.
use Rattle.std.specs.Prelude.{◌≡◌, ◌⊎◌, ℕ, List, map, drop, slice_get, Result, Ok, Err, Option, Some, None}
use Rattle.text_parser.specs.declared.fault.TextFault.{TextFault}
use Rattle.text_parser.specs.declared.fault.TextFault.TheVariants.{NoMemory, NoGoal}
use Rattle.text_parser.specs.TokenParts.{TokenParts}
use Rattle.text_parser.specs.Lex.{Lexes}
use Rattle.text_parser.specs.Lexemes.{Lexeme, lexeme_of}
use Rattle.text_parser.specs.Parsed.{◌>>=◌}
use Rattle.problem_file.specs.declared.goal_limit.GoalLimit.{GoalLimit}
use Rattle.problem_file.specs.declared.goal_limit.GoalLimit.TheVariants.{One, Batch}
use Rattle.while_lang.specs.Files.{GoalTree, FileParts}
use Rattle.problem_file.specs.Files.{State, start, file_of}
use Rattle.problem_file.specs.FirstFaults.{IsFirstFault}
use Rattle.problem_file.specs.Syntax.{scan_file}
use Rattle.problem_file.specs.Making.{parse_items}
use Rattle.problem_file.specs.Phrases.{Item, AreSpelledBy}
use Rattle.problem_file.specs.Sound.{MakeAll}

-- the state before the first item of a text with one goal
abbrev pub start_one : State
start_one = start One

-- The bytes denote a file with at most the allowed number of goals: they are the tokens of a file, nothing in them is
-- too deep or too wide, each item makes the next state, and at least one item is a goal.
pub record Denotes (limit : GoalLimit) (bytes : List ℕ) : Type 0 where
  pub parts_of_tokens : List TokenParts
  pub lexes : Lexes bytes parts_of_tokens
  pub items : List Item
  pub spells : AreSpelledBy items (map lexeme_of parts_of_tokens)
  pub state : State
  pub make : MakeAll (start limit) items state
  pub goal : GoalTree
  pub has_goal : slice_get state.goals 0 ≡ Some goal

-- the bytes denote this file, which has one goal
pub record Reads (bytes : List ℕ) (f : FileParts) : Type 0 where
  pub denotes : Denotes One bytes
  pub file : f ≡ file_of denotes.state denotes.goal

-- the bytes denote this file with its first goal, and the goals after it
pub record ReadsAll (bytes : List ℕ) (f : FileParts) (more : List GoalTree) : Type 0 where
  pub denotes : Denotes Batch bytes
  pub file : f ≡ file_of denotes.state denotes.goal
  pub goals : more ≡ drop 1 (denotes.state).goals

-- ---- the first fault

-- the file and the goals after its first, if there is a goal
abbrev pub files_with : State → Option GoalTree → Result (FileParts × List GoalTree) TextFault
files_with s None = Err NoGoal
files_with s (Some goal) = Ok (file_of s goal, drop 1 s.goals)

abbrev pub check_goal : State → Result (FileParts × List GoalTree) TextFault
check_goal s = files_with s (slice_get s.goals 0)

-- the checks of tokens in order: first their syntax, then their items
abbrev pub tested : GoalLimit → List Lexeme → Result (FileParts × List GoalTree) TextFault
tested limit ts = scan_file ts >>= λ u. parse_items (start limit) ts >>= check_goal

-- the first fault of the bytes under this limit of goals
abbrev pub HasFirstFault : GoalLimit → List ℕ → TextFault → Type 0
HasFirstFault limit bytes e = IsFirstFault (tested limit) bytes e

-- the first fault of a text with one goal, and of a text with up to `MAX_GOALS`
abbrev pub FirstFault : List ℕ → TextFault → Type 0
FirstFault bytes e = HasFirstFault One bytes e

abbrev pub FirstFaultOfAll : List ℕ → TextFault → Type 0
FirstFaultOfAll bytes e = HasFirstFault Batch bytes e

-- the answer to bytes: the file that they denote, or out of memory, or their first fault
abbrev pub Answers : List ℕ → Result FileParts TextFault → Type 0
Answers bytes (Ok f) = Reads bytes f
Answers bytes (Err e) = (e ≡ NoMemory) ⊎ FirstFault bytes e
