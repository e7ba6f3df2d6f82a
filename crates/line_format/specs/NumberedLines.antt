-- Texts of numbered lines: first lines of its own, lines that a format reads one by one, and the line `end`; and the
-- first fault of a text. Lines are counted from 1.
use Rattle.std.specs.Prelude.{◌≡◌, ℕ, ◌+◌, ◌^◌, ◌<◌, Bool, not, if◌then◌else◌, List, [], ◌∷◌, ◌++◌, codes, Option, Some, None, unwrap_or, Result, Ok, Err}
use Rattle.std.specs.List.{list_any}
use Rattle.std.specs.Option.{option_or, option_map}
use Rattle.std.specs.Str.{bytes_eq}
use Rattle.kat_model.specs.Members.{Has}
use Rattle.line_format.specs.Lines.{line_of, text_of_lines}
use Rattle.line_format.specs.Numerals.{too_wide}

-- the faults of a text, by their names in a format
pub record FaultNames (F : Type 0) : Type 0 where
  pub header : F
  pub line : ℕ → F
  pub wide : ℕ → F
  pub order : ℕ → F
  pub double : ℕ → F
  pub last : ℕ → F
  pub truncated : F
  pub trailing : ℕ → F

-- What a format gives. L is the content of a line, D holds the lines so far, V is what a text spells, and F are the
-- faults. A line has words and numbers. After the lines so far it must be allowed, name only earlier lines, and not
-- occur already; a format may have a last test of its own, with the fault `last`.
pub record LineFormat (L D V F : Type 0) : Type 0 where
  pub faults : FaultNames F
  pub words : L → List (List ℕ)
  pub read : List ℕ → Option L
  pub numbers : L → List ℕ
  pub is_allowed : D → L → Bool
  pub names_earlier : D → L → Bool
  pub occurs_already : D → L → Bool
  pub last_test : L → Bool
  pub with_line : D → L → D
  pub lines : D → List L
  pub value : D → V

-- the spelling of a line
abbrev pub spelling : {L D V F : Type 0} → LineFormat L D V F → L → List ℕ
spelling f l = line_of (f.words l)

-- all numbers of the line are below 2^64
abbrev pub IsNarrow : {L D V F : Type 0} → LineFormat L D V F → L → Type 0
IsNarrow f l = (k : ℕ) → Has (f.numbers l) k → k < 2 ^ 64

abbrev pub AllNarrow : {L D V F : Type 0} → LineFormat L D V F → D → Type 0
AllNarrow {L} f d = (l : L) → Has (f.lines d) l → IsNarrow f l

abbrev pub is_wide : {L D V F : Type 0} → LineFormat L D V F → L → Bool
is_wide f l = list_any too_wide (f.numbers l)

abbrev pub fault_if : {F : Type 0} → Bool → F → Option F
fault_if wrong fault = if wrong then Some fault else None

-- the fault of line n, which has content `l`, after the lines of d
abbrev pub fault_of : {L D V F : Type 0} → LineFormat L D V F → D → ℕ → L → Option F
fault_of f d n l =
    option_or (fault_if (not (f.is_allowed d l)) (f.faults.line n))
    (option_or (fault_if (is_wide f l) (f.faults.wide n))
    (option_or (fault_if (not (f.names_earlier d l)) (f.faults.order n))
    (option_or (fault_if (f.occurs_already d l) (f.faults.double n))
    (fault_if (not (f.last_test l)) (f.faults.last n)))))

-- A text is the list of its parts between line feeds. Each part but the last is a complete line. If no part follows,
-- the text ends too early.
abbrev pub or_truncated : {V F : Type 0} → FaultNames F → List (List ℕ) → Result V F → Result V F
or_truncated names [] answer = Err names.truncated
or_truncated names (part ∷ parts) answer = answer

-- the answer after the line `end`: the text must end where line n would begin
abbrev pub ended : {V F : Type 0} → FaultNames F → V → ℕ → List (List ℕ) → Result V F
ended names v n [] = Err (names.trailing n)
ended names v n ([] ∷ []) = Ok v
ended names v n ([] ∷ part ∷ parts) = Err (names.trailing n)
ended names v n ((b ∷ bs) ∷ parts) = Err (names.trailing n)

-- the fault of line n after the lines of d: it has no form, or its content has a fault
abbrev pub fault_after : {L D V F : Type 0} → LineFormat L D V F → D → ℕ → Option L → Option F
fault_after f d n None = Some (f.faults.line n)
fault_after f d n (Some l) = fault_of f d n l

-- the fault of a line, or the answer for the lines after it
abbrev pub after_line : {L D V F : Type 0} → LineFormat L D V F → D → ℕ → Option L → (D → Result V F) → Result V F
after_line f d n None more = Err (f.faults.line n)
after_line f d n (Some l) more = unwrap_or (option_map Err (fault_of f d n l)) (more (f.with_line d l))

-- the answer for the lines from line n on, after the lines of d
abbrev pub lines_from : {L D V F : Type 0} → LineFormat L D V F → D → ℕ → List (List ℕ) → Result V F
lines_from f d n [] = Err f.faults.truncated
lines_from f d n (line ∷ parts) =
    or_truncated f.faults parts
    (if bytes_eq line (codes "end") then ended f.faults (f.value d) (n + 1) parts
    else after_line f d n (f.read line) (λ more. lines_from f more (n + 1) parts))

-- the answer for a first line and the parts after it
abbrev pub first_then : {V F : Type 0} → FaultNames F → (List ℕ → List (List ℕ) → Result V F) → List (List ℕ) → Result V F
first_then names next [] = Err names.truncated
first_then names next (line ∷ parts) = or_truncated names parts (next line parts)

-- the text of these lines and the line `end`
abbrev pub ended_text : List (List ℕ) → List ℕ
ended_text before = text_of_lines (before ++ codes "end" ∷ [])

-- The reader gives this answer. `unless fault P` is P, or nothing if the fault is that memory ran out.
abbrev pub Answers : {V F : Type 0} → (F → Type 0 → Type 0) → Result V F → Result V F → Type 0
Answers unless given (Ok v) = given ≡ Ok v
Answers unless given (Err fault) = unless fault (given ≡ Err fault)

-- The line is added to a draft, or line n has a fault. `parts` has the lines of a draft, and `Is` its rules.
abbrev pub AddsTo : {L D V F T : Type 0} → LineFormat L D V F → (F → Type 0 → Type 0) → (T → Type 0) → (T → D) → T → ℕ → Option L → T → Result (Unit {0}) F → Type 0
AddsTo {L} f unless Is parts old n o new (Ok x) = Is new × ((l : L) × (o ≡ Some l) × (fault_of f (parts old) n l ≡ None) × (parts new ≡ f.with_line (parts old) l))
AddsTo {L} f unless Is parts old n o new (Err fault) = unless fault (fault_after f (parts old) n o ≡ Some fault)
