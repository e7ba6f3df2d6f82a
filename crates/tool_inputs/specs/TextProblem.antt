-- Why a text poses no problem.
use Rattle.std.specs.Prelude.{◌≡◌, ◌⊎◌, ℕ, List, Err}
use Rattle.text_parser.specs.declared.fault.TextFault.{TextFault}
use Rattle.kat_report.specs.Refusals.{text_fault_line}
use Rattle.while_lang.specs.Files.{FileParts}
use Rattle.problem_file.specs.Reads.{Reads, FirstFault}
use Rattle.abstraction.specs.declared.fault.AbstractFault.{AbstractFault}
use Rattle.abstraction.specs.Abstracts.{abstract_of}
use Rattle.kat_report.specs.AbstractRefusals.{abstract_fault_line}

-- there is a first fault, and its line is printed
pub record IsFaultOf (Fails : TextFault → Type 0) (output : List ℕ) : Type 0 where
  pub fault : TextFault
  pub first : Fails fault
  pub printed : output ≡ text_fault_line fault

-- the text is not a file, and its first fault is printed
abbrev pub IsFaulty : List ℕ → List ℕ → Type 0
IsFaulty text output = IsFaultOf (FirstFault text) output

-- some text is read as the file
abbrev pub IsRead : FileParts → Type 0
IsRead f = (text : List ℕ) × Reads text f

-- the file has no abstraction and therefore no question; the printed line gives the reason
pub record HasNoAbstraction (f : FileParts) (output : List ℕ) : Type 0 where
  pub fault : AbstractFault
  pub has_none : abstract_of f ≡ Err fault
  pub printed : output ≡ abstract_fault_line fault

-- the text poses no problem; the printed line gives the reason
abbrev pub HasNoProblem : List ℕ → List ℕ → Type 0
HasNoProblem text output = IsFaulty text output ⊎ ((f : FileParts) × Reads text f × HasNoAbstraction f output)
