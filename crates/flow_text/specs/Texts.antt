-- The flow file that a text spells, or the first fault of the text.
use Rattle.std.specs.Prelude.{◌≡◌, ◌⊎◌, ℕ, List, length, Result, Ok, Err}
use Rattle.text_parser.specs.declared.fault.TextFault.{TextFault}
use Rattle.text_parser.specs.declared.fault.TextFault.TheVariants.{NoMemory, BadToken}
use Rattle.text_parser.specs.TokenParts.{TokenParts}
use Rattle.text_parser.specs.Lex.{Lexes, FirstBad}
use Rattle.flow_syntax.specs.Derivations.{IsFirstFault}
use Rattle.problem_file.specs.FirstFaults.{IsNoText}
use Rattle.flow_syntax.specs.declared.phrase.TheConstants.{FILE}
use Rattle.flow_text.specs.declared.reading.FlowFile.{FlowFile}
use Rattle.flow_syntax.specs.Marks.{marks_of}
use Rattle.flow_syntax.specs.Syntax.{ItemSyntax}
use Rattle.flow_syntax.specs.Spelling.{AreSpelled}
use Rattle.flow_syntax.specs.Productions.{rules}
use Rattle.flow_text.specs.Checking.{FlowFileParts, file_of}
use Rattle.flow_text.specs.FileViews.{file_parts}

-- the text spells these items
pub record Spells (text : List ℕ) (is : List ItemSyntax) : Type 0 where
  pub tokens : List TokenParts
  pub lexed : Lexes text tokens
  pub spelled : AreSpelled tokens (length text) is

-- the text is tokens with this first fault of syntax
pub record HasSyntaxFault (text : List ℕ) (fault : TextFault) : Type 0 where
  pub tokens : List TokenParts
  pub lexed : Lexes text tokens
  pub refused : IsFirstFault rules FILE (marks_of tokens) (length text) fault

-- the text is that of a file, whose items have no fault
pub record IsFlowText (text : List ℕ) (f : FlowFileParts) : Type 0 where
  pub spelled : List ItemSyntax
  pub spells : Spells text spelled
  pub file : file_of spelled ≡ Ok f

-- the text spells items of which this is the first fault
pub record HasItemFault (text : List ℕ) (fault : TextFault) : Type 0 where
  pub spelled : List ItemSyntax
  pub spells : Spells text spelled
  pub refused : file_of spelled ≡ Err fault

-- the first fault of the bytes, in the order in which faults are reported
pub data FirstFault (bytes : List ℕ) (e : TextFault) : Type 0 where
  no_text : (no : IsNoText bytes e) → FirstFault bytes e
  bad_token : (at : ℕ) → (given : e ≡ BadToken at) → (bad : FirstBad bytes at) → FirstFault bytes e
  wrong_syntax : (refused : HasSyntaxFault bytes e) → FirstFault bytes e
  wrong_item : (refused : HasItemFault bytes e) → FirstFault bytes e

-- the answer to the bytes: the file that they spell, their first fault, or out of memory
abbrev pub Answers : List ℕ → Result FlowFile TextFault → Type 0
Answers bytes (Ok f) = IsFlowText bytes (file_parts f)
Answers bytes (Err e) = (e ≡ NoMemory) ⊎ FirstFault bytes e
