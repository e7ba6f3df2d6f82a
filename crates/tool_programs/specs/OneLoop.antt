-- `oneloop`: its reply to a text and a name, and what that says of the program.
use Rattle.std.specs.Prelude.{◌≡◌, ◌≢◌, ◌⊎◌, ◌↔◌, ◌<◌, ◌≤◌, ◌+◌, ◌*◌, ◌^◌, ℕ, List, ◌++◌, length, None, Some, codes, replicate}
use Rattle.kat_model.specs.declared.limits.TheConstants.{MAX_EXPR_NODES, MAX_TERM_NODES, MAX_OPEN, MAX_TEXT_BYTES, MAX_VARS}
use Rattle.kat_model.specs.declared.expression.Width.{Width}
use Rattle.kat_model.specs.Stores.{modulus}
use Rattle.text_parser.specs.declared.meaning.Meaning.{Meaning}
use Rattle.text_parser.specs.declared.meaning.Meaning.TheVariants.{Var}
use Rattle.text_parser.specs.ScopeParts.{ScopeParts, IsDeclared, IsUndeclared, IsWellFormed, declared}
use Rattle.text_print.specs.Printing.{name_of}
use Rattle.while_lang.specs.Programs.{ProgTree, statements}
use Rattle.while_lang.specs.ProgramSizes.{prog_size, largest_in}
use Rattle.while_lang.specs.ProgramPrinting.{block_levels}
use Rattle.one_loop.specs.declared.fault.OneLoopFault.{OneLoopFault}
use Rattle.one_loop.specs.declared.fault.OneLoopFault.TheVariants.{NoMemory, TooManyVars, TooManyStatements}
use Rattle.tool_programs.specs.FormFaults.{form_fault_line}
use Rattle.one_loop.specs.Statements.{HasTooManyStatements}
use Rattle.one_loop.specs.Forms.{IsOneForm}
use Rattle.one_loop.specs.Sizes.{IsSmallForm}
use Rattle.while_lang.specs.Files.{FileParts}
use Rattle.problem_file.specs.Reads.{Reads}
use Rattle.problem_file.specs.ProgramNumbers.{ProgIsNarrow}
use Rattle.problem_file.specs.ProgramTexts.{one_program_text}
use Rattle.problem_file.specs.TextLaws.{DenotesProgram}
use Rattle.tool_inputs.specs.TextProblem.{IsFaulty}
use Rattle.tool_commands.specs.ProgramWords.{program_of}
use Rattle.tool_inputs.specs.Steps.{ReplySpec, IsRefusal, ReadsText, HasUnfitWords}
use Rattle.kat_report.specs.InputLines.{words_line}

-- ---- the counter

-- `pc` and `n` times `_`
abbrev pub pc_name : ℕ → List ℕ
pc_name n = codes "pc" ++ replicate n 95

-- the name is `pc` and the fewest `_` such that this name is not declared
pub record IsCounterName (w : ScopeParts) (name : List ℕ) : Type 0 where
  pub bars : ℕ
  pub spelled : name ≡ pc_name bars
  pub is_new : IsUndeclared w name
  pub fewest : (k : ℕ) → k < bars → IsDeclared w (pc_name k)

-- the names of the file, with the counter as the variable after those of the file
abbrev pub names_with : FileParts → List ℕ → Meaning → List ℕ
names_with f counter = name_of (declared f.scope counter (Var f.vars))

-- ---- programs without a form

-- why a program of the file has no form: there are `MAX_VARS` variables, or there are fewer and the program has too
-- many statements
abbrev pub IsFormFault : FileParts → ProgTree → OneLoopFault → Type 0
IsFormFault f p NoMemory = ⊥
IsFormFault f p TooManyVars = f.vars ≡ MAX_VARS
IsFormFault f p (TooManyStatements n) = (f.vars < MAX_VARS) × HasTooManyStatements f.width p n

-- the program has no form, and the line that is printed says why
pub record HasNoForm (f : FileParts) (p : ProgTree) (output : List ℕ) : Type 0 where
  pub fault : OneLoopFault
  pub is_fault : IsFormFault f p fault
  pub printed : output ≡ form_fault_line fault

-- the program has a form: a counter can be added to the variables, and the width has more numbers than the program has
-- statements
pub record HasForm (f : FileParts) (p : ProgTree) : Type 0 where
  pub place : f.vars ≢ MAX_VARS
  pub few : statements p < modulus f.width

-- ---- the reply

-- a form of the program is printed as a separate problem, under the program's name; the names of the file are
-- identifiers with different meanings
pub record PrintsForm (f : FileParts) (name : List ℕ) (p : ProgTree) (output : List ℕ) : Type 0 where
  pub form : ProgTree
  pub is_form : IsOneForm f.width p form f.vars
  pub small : IsSmallForm p form
  pub counter : List ℕ
  pub is_counter : IsCounterName f.scope counter
  pub well_formed : IsWellFormed f.scope
  pub printed : output ≡ one_program_text (names_with f counter) f.width (f.vars + 1) name form

-- the reply to a program with this name: it has no form, or a form is printed
abbrev pub FormsProgram : FileParts → List ℕ → ProgTree → ReplySpec
FormsProgram f name p status output = IsRefusal (HasNoForm f p) status output ⊎ ((status ≡ 0) × HasForm f p × PrintsForm f name p output)

-- the steps of the reply to a file, and to a text
abbrev pub FormsFile : FileParts → List ℕ → ReplySpec
FormsFile f name status output =
    HasUnfitWords (program_of f name ≡ None) status output ⊎ ((p : ProgTree) × (program_of f name ≡ Some p) × FormsProgram f name p status output)

abbrev pub FormsText : List ℕ → List ℕ → ReplySpec
FormsText text name = ReadsText text (λ f. FormsFile f name)

-- ---- what it says

-- the program and the text are within the limits of a text: on numbers, nodes in an expression, nodes, open constructs
-- at one place, and bytes
pub record IsWithinText (w : Width) (p : ProgTree) (text : List ℕ) : Type 0 where
  pub narrow : ProgIsNarrow w p
  pub small_exprs : largest_in p ≤ MAX_EXPR_NODES
  pub small : prog_size p ≤ MAX_TERM_NODES
  pub shallow : block_levels p ≤ MAX_OPEN
  pub short : length text ≤ MAX_TEXT_BYTES

-- The program is small, so each form of it is within the limits of a text: its numbers are below 2 to the width, no
-- name of its file has more than `longest` bytes, and nodes, nesting and bytes have room for those that a form adds
pub record IsSmallProgram (f : FileParts) (p : ProgTree) : Type 0 where
  pub narrow : ProgIsNarrow f.width p
  pub small_exprs : largest_in p ≤ MAX_EXPR_NODES
  pub small : prog_size p + 8 * statements p + 6 ≤ MAX_TERM_NODES
  pub doublings : ℕ
  pub few : statements p ≤ 2 ^ doublings
  pub shallow : block_levels p + doublings + 1 ≤ MAX_OPEN
  pub longest : ℕ
  pub names : (name : List ℕ) → IsDeclared f.scope name → length name ≤ longest
  pub short : (longest + 22) * (prog_size p + 8 * statements p + 73) ≤ MAX_TEXT_BYTES

-- a form of the program is printed, and is within the limits if the program is small; within the limits, the output is
-- read as a file of the same width that has exactly this form under the program's name
pub record ShowsForm (f : FileParts) (name : List ℕ) (p : ProgTree) (output : List ℕ) : Type 0 where
  pub prints : PrintsForm f name p output
  pub within : IsSmallProgram f p → IsWithinText f.width prints.form output
  pub reads_back : IsWithinText f.width prints.form output →
      (denotes : DenotesProgram output (names_with f prints.counter) f.width (f.vars + 1) name prints.form) × (program_of denotes.poses.file name ≡ Some prints.form)

-- The status is 0 exactly when the name is that of a concrete program of the file that has a form; then a form is
-- printed. It is 2 exactly when the program has no form, with the line that gives the reason, and 7 exactly when there
-- is no such program.
pub record OneLoopHeadline (f : FileParts) (name : List ℕ) (status : ℕ) (output : List ℕ) : Type 0 where
  pub answers : (status ≡ 0) ⊎ ((status ≡ 2) ⊎ (status ≡ 7))
  pub formed : (status ≡ 0) ↔ ((p : ProgTree) × (program_of f name ≡ Some p) × HasForm f p)
  pub form : (p : ProgTree) → program_of f name ≡ Some p → HasForm f p → ShowsForm f name p output
  pub refused : (status ≡ 2) ↔ ((p : ProgTree) × (line : List ℕ) × (program_of f name ≡ Some p) × HasNoForm f p line)
  pub refused_line : (p : ProgTree) (line : List ℕ) → program_of f name ≡ Some p → HasNoForm f p line → output ≡ line
  pub unfit : (status ≡ 7) ↔ (program_of f name ≡ None)
  pub unfit_line : status ≡ 7 → output ≡ words_line

-- the text is read as a file in which no concrete program has the name
abbrev pub LacksProgram : List ℕ → List ℕ → Type 0
LacksProgram text name = (f : FileParts) × Reads text f × (program_of f name ≡ None)

-- What a reply of `oneloop` says about its text. The headline holds for the file that is read. A text that is not a
-- file is refused with its line.
pub record OneLoopReply (text name : List ℕ) (status : ℕ) (output : List ℕ) : Type 0 where
  pub replies : FormsText text name status output
  pub headline : (f : FileParts) → Reads text f → OneLoopHeadline f name status output
  pub declined : (line : List ℕ) → IsFaulty text line → (status ≡ 2) × (output ≡ line)
