-- LRAT texts: lines `ID LITERALS 0 HINTS 0`, which add a clause, and `ID d IDS 0`, which delete clauses. Each 0 ends a
-- list. A hint after a minus sign begins the hints of resolvents. The id of a deletion has no meaning.
use Rattle.std.specs.Prelude.{ℕ, ◌^◌, nat_lt, true, false, if◌then◌else◌, List, [], ◌∷◌, ◌++◌, codes, Option, None, Some, Result, Ok, Err}
use Rattle.std.specs.Str.{bytes_eq}
use Rattle.lrat_checker.specs.Words.{WordParts, WordFormat, words_of, last_line, read_from}
use Rattle.lrat_checker.specs.Numbers.{NumberParts, nothing, plus, minus, number_of, literal}
use Rattle.lrat_checker.specs.declared.literal.Literal.{Literal}
use Rattle.lrat_checker.specs.declared.proof.Line.{Line}
use Rattle.lrat_checker.specs.declared.proof.Line.TheVariants.{Addition, Deletion}
use Rattle.lrat_checker.specs.declared.fault.ProofFault.{ProofFault}
use Rattle.lrat_checker.specs.declared.fault.ProofFault.TheVariants.{NotId, NotLiteral, NotHint, Unended}

-- what was read of a line: nothing, its id, literals after it, hints after these, or ids of a deletion
pub data LineRead : Type 0 where
  between : LineRead
  after_id : (id : ℕ) → LineRead
  in_clause : (id : ℕ) (clause : List Literal) → LineRead
  in_hints : (id : ℕ) (clause : List Literal) (hints : List ℕ) → LineRead
  in_resolvents : (id : ℕ) (clause : List Literal) (hints : List ℕ) → LineRead
  in_deletion : (ids : List ℕ) → LineRead

-- the lines that were read, and what was read of the next one
pub record ProofRead : Type 0 where
  pub lines : List Line
  pub next : LineRead

abbrev pub reading : List Line → LineRead → ProofRead
reading lines next = record { lines = lines; next = next }

-- the line is complete
abbrev pub completed : List Line → Line → ProofRead
completed lines line = reading (lines ++ line ∷ []) between

-- a number below a limit, or a fault
abbrev pub below : {X : Type 0} → ℕ → ℕ → ProofFault → X → Result X ProofFault
below limit k fault x = if nat_lt k limit then Ok x else Err fault

abbrev pub with_id : List Line → ℕ → Option NumberParts → Result ProofRead ProofFault
with_id lines line (Some (plus k)) = below (2 ^ 64) k (NotId line) (reading lines (after_id k))
with_id lines line o = Err (NotId line)

-- an additional literal
abbrev pub pushed : List Line → ℕ → List Literal → ℕ → Literal → Result ProofRead ProofFault
pushed lines id clause line l = below (2 ^ 31) l.variable (NotLiteral line) (reading lines (in_clause id (clause ++ l ∷ [])))

abbrev pub with_literal : List Line → ℕ → List Literal → ℕ → Option NumberParts → Result ProofRead ProofFault
with_literal lines id clause line (Some nothing) = Ok (reading lines (in_hints id clause []))
with_literal lines id clause line (Some (plus k)) = pushed lines id clause line (literal k true)
with_literal lines id clause line (Some (minus k)) = pushed lines id clause line (literal k false)
with_literal lines id clause line None = Err (NotLiteral line)

-- a word after the id
abbrev pub with_kind : List Line → ℕ → WordParts → Result ProofRead ProofFault
with_kind lines id w =
    if bytes_eq w.bytes (codes "d") then Ok (reading lines (in_deletion [])) else with_literal lines id [] w.line (number_of w.bytes)

abbrev pub with_hint : List Line → ℕ → List Literal → List ℕ → ℕ → Option NumberParts → Result ProofRead ProofFault
with_hint lines id clause hints line (Some nothing) = Ok (completed lines (Addition id clause hints false))
with_hint lines id clause hints line (Some (plus k)) = below (2 ^ 64) k (NotHint line) (reading lines (in_hints id clause (hints ++ k ∷ [])))
with_hint lines id clause hints line (Some (minus k)) = below (2 ^ 64) k (NotHint line) (reading lines (in_resolvents id clause hints))
with_hint lines id clause hints line None = Err (NotHint line)

abbrev pub with_resolvent : List Line → ℕ → List Literal → List ℕ → ℕ → Option NumberParts → Result ProofRead ProofFault
with_resolvent lines id clause hints line (Some nothing) = Ok (completed lines (Addition id clause hints true))
with_resolvent lines id clause hints line (Some (plus k)) = below (2 ^ 64) k (NotHint line) (reading lines (in_resolvents id clause hints))
with_resolvent lines id clause hints line (Some (minus k)) = below (2 ^ 64) k (NotHint line) (reading lines (in_resolvents id clause hints))
with_resolvent lines id clause hints line None = Err (NotHint line)

abbrev pub with_deleted : List Line → List ℕ → ℕ → Option NumberParts → Result ProofRead ProofFault
with_deleted lines ids line (Some nothing) = Ok (completed lines (Deletion ids))
with_deleted lines ids line (Some (plus k)) = below (2 ^ 64) k (NotId line) (reading lines (in_deletion (ids ++ k ∷ [])))
with_deleted lines ids line (Some (minus k)) = Err (NotId line)
with_deleted lines ids line None = Err (NotId line)

-- a word of a line of which this was read
abbrev pub line_with_word : List Line → LineRead → WordParts → Result ProofRead ProofFault
line_with_word lines between w = with_id lines w.line (number_of w.bytes)
line_with_word lines (after_id id) w = with_kind lines id w
line_with_word lines (in_clause id clause) w = with_literal lines id clause w.line (number_of w.bytes)
line_with_word lines (in_hints id clause hints) w = with_hint lines id clause hints w.line (number_of w.bytes)
line_with_word lines (in_resolvents id clause hints) w = with_resolvent lines id clause hints w.line (number_of w.bytes)
line_with_word lines (in_deletion ids) w = with_deleted lines ids w.line (number_of w.bytes)

abbrev pub proof_with_word : ProofRead → WordParts → Result ProofRead ProofFault
proof_with_word r w = line_with_word r.lines r.next w

abbrev pub ended : List Line → LineRead → ℕ → Result (List Line) ProofFault
ended lines between last = Ok lines
ended lines next last = Err (Unended last)

abbrev pub proof_at_end : ProofRead → ℕ → Result (List Line) ProofFault
proof_at_end r last = ended r.lines r.next last

abbrev pub proof_format : WordFormat ProofRead (List Line) ProofFault
proof_format = record { with_word = proof_with_word; at_end = proof_at_end }

-- the proof that a text denotes, or its first fault
abbrev pub proof_of : List ℕ → Result (List Line) ProofFault
proof_of text = read_from proof_format (reading [] between) (words_of text) (last_line text)
