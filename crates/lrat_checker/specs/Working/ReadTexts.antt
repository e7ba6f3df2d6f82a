-- Texts as the program reads them.
use Rattle.std.specs.Prelude.{ℕ, List, Result, Ok}
use Rattle.lrat_checker.specs.Words.{WordParts}
use Rattle.lrat_checker.specs.Numbers.{number_of}
use Rattle.lrat_checker.specs.Answers.{CnfGives, ProofGives}
use Rattle.lrat_checker.specs.CnfTexts.{CnfAnswer, ClausesRead, reading, after_fixed, after_count}
use Rattle.lrat_checker.specs.ProofTexts.{ProofRead, LineRead, between, after_id, in_clause, in_hints, in_resolvents, in_deletion, with_id, with_kind, with_literal, with_hint, with_resolvent, with_deleted, reading as reading_line}
use Rattle.lrat_checker.specs.Working.WordLists.{words_left, last_left}
use Rattle.lrat_checker.specs.declared.literal.Literal.{Literal}
use Rattle.lrat_checker.specs.declared.words.Words.{Words}
use Rattle.lrat_checker.specs.declared.fault.CnfFault.{CnfFault}
use Rattle.lrat_checker.specs.declared.fault.ProofFault.{ProofFault}
use Rattle.lrat_checker.specs.declared.cnf_text.CnfHeader.{CnfHeader}
use Rattle.lrat_checker.specs.declared.cnf_text.ClausesDraft.{ClausesDraft}
use Rattle.lrat_checker.specs.declared.proof_text.ProofDraft.{ProofDraft}
use Rattle.lrat_checker.specs.declared.proof_text.Part.{Part}
use Rattle.lrat_checker.specs.declared.proof_text.Part.TheVariants.{Id, Kind, Literals, Hints, Resolvents, Deleted}

-- the words that are left
abbrev pub left_of : Words → List WordParts
left_of w = words_left w.number w.line.now w.after

-- the number of the last line
abbrev pub last_of : Words → ℕ
last_of w = last_left w.number w.after

-- what a draft of clauses has read
abbrev pub clauses_read : ClausesDraft → ClausesRead
clauses_read d = reading d.clauses.items d.clause.items

-- what a draft of a proof has read of its next line
abbrev pub line_read : Part → ℕ → List Literal → List ℕ → LineRead
line_read Id id literals ids = between
line_read Kind id literals ids = after_id id
line_read Literals id literals ids = in_clause id literals
line_read Hints id literals ids = in_hints id literals ids
line_read Resolvents id literals ids = in_resolvents id literals ids
line_read Deleted id literals ids = in_deletion ids

-- what a draft of a proof has read
abbrev pub proof_read : ProofDraft → ProofRead
proof_read d = reading_line d.lines.items (line_read d.part d.id d.literals.items d.ids.items)

-- ---- the header of a formula

-- what follows the header, by its numbers of variables and clauses
abbrev pub AfterHeader : Type 0
AfterHeader = ℕ → ℕ → List WordParts → CnfAnswer

-- a word that is always the same was read
abbrev pub ReadsFixed : List ℕ → Words → Words → Result (Unit {0}) CnfFault → Type 0
ReadsFixed expected old new result =
    (more : List WordParts → CnfAnswer) → CnfGives (after_fixed expected (last_of old) more (left_of old)) result (λ x. more (left_of new))

-- a number that is at most this was read
abbrev pub ReadsCount : ℕ → Words → Words → Result ℕ CnfFault → Type 0
ReadsCount most old new result =
    (more : ℕ → List WordParts → CnfAnswer) → CnfGives (after_count most (last_of old) more (left_of old)) result (λ k. more k (left_of new))

-- the rest of a header was read, of which `rest` says how
abbrev pub ReadsHeader : (ℕ → AfterHeader → List WordParts → CnfAnswer) → Words → Words → Result CnfHeader CnfFault → Type 0
ReadsHeader rest old new result =
    (more : AfterHeader) → CnfGives (rest (last_of old) more (left_of old)) result (λ h. more h.variables h.count (left_of new))

-- ---- drafts

-- the draft of clauses has read this, or the fault is this one
abbrev pub DraftsClauses : Result ClausesRead CnfFault → ClausesDraft → Result (Unit {0}) CnfFault → Type 0
DraftsClauses read new result = CnfGives read result (λ x. Ok (clauses_read new))

-- the draft of a proof has read this, or the fault is this one
abbrev pub DraftsProof : Result ProofRead ProofFault → ProofDraft → Result (Unit {0}) ProofFault → Type 0
DraftsProof read new result = ProofGives read result (λ x. Ok (proof_read new))

-- what is read when a word follows, by the part of the line
abbrev pub id_read : ProofDraft → WordParts → Result ProofRead ProofFault
id_read d w = with_id d.lines.items w.line (number_of w.bytes)

abbrev pub kind_read : ProofDraft → WordParts → Result ProofRead ProofFault
kind_read d w = with_kind d.lines.items d.id w

abbrev pub literal_read : ProofDraft → WordParts → Result ProofRead ProofFault
literal_read d w = with_literal d.lines.items d.id d.literals.items w.line (number_of w.bytes)

abbrev pub hint_read : ProofDraft → WordParts → Result ProofRead ProofFault
hint_read d w = with_hint d.lines.items d.id d.literals.items d.ids.items w.line (number_of w.bytes)

abbrev pub resolvent_read : ProofDraft → WordParts → Result ProofRead ProofFault
resolvent_read d w = with_resolvent d.lines.items d.id d.literals.items d.ids.items w.line (number_of w.bytes)

abbrev pub deleted_read : ProofDraft → WordParts → Result ProofRead ProofFault
deleted_read d w = with_deleted d.lines.items d.ids.items w.line (number_of w.bytes)
