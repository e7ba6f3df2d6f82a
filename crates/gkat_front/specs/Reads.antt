-- The answer to bytes: the file that they denote, or their first fault.
use Rattle.std.specs.Prelude.{◌≡◌, ◌⊎◌, ℕ, List, map, Result, Ok, Err}
use Rattle.text_parser.specs.declared.fault.TextFault.{TextFault}
use Rattle.text_parser.specs.declared.fault.TextFault.TheVariants.{NoMemory}
use Rattle.text_parser.specs.TokenParts.{TokenParts}
use Rattle.text_parser.specs.Lex.{Lexes}
use Rattle.text_parser.specs.Lexemes.{lexeme_of}
use Rattle.problem_file.specs.FirstFaults.{IsFirstFault}
use Rattle.gkat_front.specs.declared.file.GkatFile.{GkatFile}
use Rattle.gkat_front.specs.Files.{GkatFileParts}
use Rattle.gkat_front.specs.FileViews.{file_parts}
use Rattle.gkat_front.specs.FilePhrases.{GkatItem, AreSpelledBy}
use Rattle.gkat_front.specs.FileFolds.{file_made}
use Rattle.gkat_front.specs.Making.{tested}

-- The bytes denote this file: their tokens spell items in which nothing is too deep or too wide, and these items make
-- the file.
pub record Reads (bytes : List ℕ) (f : GkatFileParts) : Type 0 where
  pub parts_of_tokens : List TokenParts
  pub lexes : Lexes bytes parts_of_tokens
  pub items : List GkatItem
  pub spells : AreSpelledBy items (map lexeme_of parts_of_tokens)
  pub file : file_made items ≡ Ok f

-- the first fault of the bytes, in the order in which faults are reported
abbrev pub FirstFault : List ℕ → TextFault → Type 0
FirstFault bytes e = IsFirstFault tested bytes e

-- the answer to the bytes: the file that they denote, their first fault, or out of memory
abbrev pub Answers : List ℕ → Result GkatFile TextFault → Type 0
Answers bytes (Ok f) = Reads bytes (file_parts f)
Answers bytes (Err e) = (e ≡ NoMemory) ⊎ FirstFault bytes e
