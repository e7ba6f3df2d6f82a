-- The laws of problem files. Each is the contract of a function of the crate that does nothing.
use Rattle.std.specs.Prelude.{◌≡◌, ◌↔◌, ◌⊎◌, ℕ, List, Ok}
use Rattle.kat_model.specs.Members.{Has}
use Rattle.text_parser.specs.declared.fault.TextFault.{TextFault}
use Rattle.text_parser.specs.declared.fault.TextFault.TheVariants.{NoMemory}
use Rattle.text_parser.specs.Lexemes.{Lexeme}
use Rattle.while_lang.specs.BlockLaws.{AreLimited}
use Rattle.while_lang.specs.Files.{GoalTree, FileParts}
use Rattle.problem_file.specs.Files.{State}
use Rattle.problem_file.specs.Syntax.{checking, scan_file}
use Rattle.problem_file.specs.Making.{making, parse_items}
use Rattle.problem_file.specs.Phrases.{Item, IsFile, AreSpelledBy}
use Rattle.problem_file.specs.Folds.{fold_items}
use Rattle.problem_file.specs.Sound.{MakeAll}
use Rattle.problem_file.specs.Reads.{Reads, ReadsAll}
use Rattle.while_lang.specs.Ranges.{IsNumbered, IsGoalInRange}

-- the tokens are a file
abbrev pub IsSomeFile : List Lexeme → Type 0
IsSomeFile ts = (items : List Item) × AreSpelledBy items ts

abbrev pub FilesAreScanned : Type 0
FilesAreScanned = (ts : List Lexeme) → (scan_file ts ≡ Ok tt) ↔ IsSomeFile ts

-- from the first state, or from a state with programs within the limit
abbrev pub ItemsAreMade : Type 0
ItemsAreMade =
    (s t : State) (items : List Item) (ts : List Lexeme) → AreLimited s.progs → AreSpelledBy items ts →
    (parse_items s ts ≡ Ok t) ↔ MakeAll s items t

-- for the tokens of a file, the result of both passes, including a fault, is the fold of their actions over the items
pub record ItemsAreFolded : Type 0 where
  pub scanned : (items : List Item) (ts : List Lexeme) → IsFile items ts → scan_file ts ≡ fold_items checking tt items
  pub made : (s : State) (items : List Item) (ts : List Lexeme) → IsFile items ts → parse_items s ts ≡ fold_items making s items

-- bytes have exactly one answer or exactly one first fault, which is never `NoMemory`
pub record HaveOneAnswer {X : Type 0} (Denotes : List ℕ → X → Type 0) (Fails : List ℕ → TextFault → Type 0) : Type 0 where
  pub some : (bytes : List ℕ) → ((x : X) × Denotes bytes x) ⊎ ((e : TextFault) × Fails bytes e)
  pub either : (bytes : List ℕ) (x : X) (e : TextFault) → Denotes bytes x → Fails bytes e → ⊥
  pub values : (bytes : List ℕ) (x y : X) → Denotes bytes x → Denotes bytes y → x ≡ y
  pub faults : (bytes : List ℕ) (d e : TextFault) → Fails bytes d → Fails bytes e → d ≡ e
  pub named : (bytes : List ℕ) → Fails bytes NoMemory → ⊥

-- a file and the goals after its first
abbrev pub ReadsBoth : List ℕ → FileParts × List GoalTree → Type 0
ReadsBoth bytes x = ReadsAll bytes x.0 x.1

abbrev pub AreInRanges : Type 0
AreInRanges = (bytes : List ℕ) (f : FileParts) → Reads bytes f → IsNumbered f

-- the same for each goal of a text
pub record AreAllInRanges : Type 0 where
  pub file : (bytes : List ℕ) (f : FileParts) (more : List GoalTree) → ReadsAll bytes f more → IsNumbered f
  pub goals : (bytes : List ℕ) (f : FileParts) (more : List GoalTree) → ReadsAll bytes f more → (g : GoalTree) → Has more g → IsGoalInRange f.tests f.actions f.vars g
