-- The answers of the parts of the reader, for the code and the proofs. Memory may run out.
use Rattle.std.specs.Prelude.{◌≡◌, ℕ, true, false, List, [], ◌∷◌, Option, Some, None, Result, Ok, Err}
use Rattle.kat_model.specs.Members.{SameMembers}
use Rattle.kat_model.specs.Strings.{Move, GuardedString}
use Rattle.line_format.specs.Numerals.{too_wide}
use Rattle.line_format.specs.NumberedLines.{Answers, AddsTo}
use Rattle.certificate.specs.declared.entry.Entry.{Entry}
use Rattle.certificate.specs.declared.entry.LineFault.{LineFault}
use Rattle.certificate.specs.declared.entry.LineFault.TheVariants.{NoMemory as NoRoom, Form, Wide}
use Rattle.certificate.specs.declared.moves.MoveFault.{MoveFault}
use Rattle.certificate.specs.declared.moves.MoveFault.TheVariants.{NoMemory as NoSpace, Form as Formless, Wide as TooWide}
use Rattle.certificate.specs.declared.draft.Draft.{Draft}
use Rattle.certificate.specs.declared.string_draft.StringDraft.{StringDraft}
use Rattle.certificate.specs.declared.evidence.EvidenceFault.{EvidenceFault}
use Rattle.certificate.specs.declared.evidence.EvidenceFault.TheVariants.{NoMemory}
use Rattle.certificate.specs.Certs.{CertParts, cert_of, IsCert}
use Rattle.certificate.specs.Faults.{Answer, is_wide, section_of, is_section_allowed, names_earlier, entry_format}

-- P, unless the fault is that memory ran out
abbrev pub unless_memory : EvidenceFault → Type 0 → Type 0
unless_memory NoMemory P = Unit {0}
unless_memory fault P = P

-- a fact gives itself unless memory ran out, and so does a fact that follows from one
pub is_given : (fault : EvidenceFault) (given : Answer) → given ≡ Err fault → unless_memory fault (given ≡ Err fault)
is_given NoMemory given e = tt
is_given fault given e = e

pub is_passed_on : (fault : EvidenceFault) (o : Option EvidenceFault) (given : Answer) → unless_memory fault (o ≡ Some fault) → (o ≡ Some fault → given ≡ Err fault) → unless_memory fault (given ≡ Err fault)
is_passed_on NoMemory o given e f = tt
is_passed_on fault o given e f = f e

-- the result is this answer, unless memory ran out
abbrev pub Reads : Answer → Answer → Type 0
Reads given result = Answers unless_memory given result

-- the one number of a list
abbrev pub single_of : List ℕ → Option ℕ
single_of (k ∷ []) = Some k
single_of ks = None

-- the result of reading a line that is this entry, or is not an entry
abbrev pub ReadsEntry : Option Entry → Result Entry LineFault → Type 0
ReadsEntry o (Ok e) = (o ≡ Some e) × (is_wide e ≡ false)
ReadsEntry o (Err NoRoom) = Unit {0}
ReadsEntry o (Err Form) = o ≡ None
ReadsEntry o (Err (Wide section)) = (e : Entry) × (o ≡ Some e) × (is_wide e ≡ true) × (section_of e ≡ section)

-- the entries that a draft holds
abbrev pub draft_parts : Draft → CertParts
draft_parts d = cert_of d.style d.test_nodes.items d.term_nodes.items d.pairs.items

-- a draft keeps the rules, and its sets contain its nodes
pub record IsDraft (d : Draft) : Type 0 where
  pub cert : IsCert (draft_parts d)
  pub tests : SameMembers d.known_tests.keys d.test_nodes.items
  pub terms : SameMembers d.known_terms.keys d.term_nodes.items

-- the entry passes the first three tests
pub record MayBeAdded (d : Draft) (e : Entry) : Type 0 where
  pub allowed : is_section_allowed (draft_parts d) (section_of e) ≡ true
  pub narrow : is_wide e ≡ false
  pub earlier : names_earlier (draft_parts d) e ≡ true

-- an entry is added to a draft, or line n has a fault
abbrev pub AddsEntry : Draft → ℕ → Option Entry → Draft → Result (Unit {0}) EvidenceFault → Type 0
AddsEntry old n o new result = AddsTo entry_format unless_memory IsDraft draft_parts old n o new result

-- the string that a draft holds
abbrev pub string_parts : StringDraft → GuardedString
string_parts d = record { first = d.first; rest = d.moves.items }

-- the result of reading a line that is this move, or is not a move
abbrev pub ReadsMove : Option Move → Result Move MoveFault → Type 0
ReadsMove o (Ok m) = (o ≡ Some m) × (too_wide m.act ≡ false)
ReadsMove o (Err NoSpace) = Unit {0}
ReadsMove o (Err Formless) = o ≡ None
ReadsMove o (Err TooWide) = (m : Move) × (o ≡ Some m) × (too_wide m.act ≡ true)
