-- The answer to bytes, for each limit of goals.
use Rattle.std.specs.Prelude.{◌≡◌, ◌⊎◌, ℕ, List, map, drop, Vec, Result, MatchResult}
use Rattle.std.specs.declared.alloc.Global.{Global}
use Rattle.text_parser.specs.declared.fault.TextFault.{TextFault}
use Rattle.text_parser.specs.declared.fault.TextFault.TheVariants.{NoMemory}
use Rattle.while_lang.specs.declared.file.Goal.{Goal}
use Rattle.problem_file.specs.declared.goal_limit.GoalLimit.{GoalLimit}
use Rattle.while_lang.specs.Files.{FileParts}
use Rattle.problem_file.specs.Files.{file_of}
use Rattle.while_lang.specs.Trees.{goal_tree}
use Rattle.problem_file.specs.Reads.{Denotes, HasFirstFault}

-- the bytes denote this file and these goals
pub record AreDenoted (limit : GoalLimit) (bytes : List ℕ) (x : FileParts × Vec Goal Global) : Type 0 where
  pub denotes : Denotes limit bytes
  pub file : x.0 ≡ file_of denotes.state denotes.goal
  pub goals : map goal_tree x.1.items ≡ drop 1 (denotes.state).goals

-- the file that the bytes denote, or out of memory, or their first fault
abbrev pub AnswersFor : GoalLimit → List ℕ → Result (FileParts × Vec Goal Global) TextFault → Type 0
AnswersFor limit bytes result = MatchResult result (AreDenoted limit bytes) (λ e. (e ≡ NoMemory) ⊎ HasFirstFault limit bytes e)
