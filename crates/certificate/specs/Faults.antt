-- The first fault of a text that is not the text of evidence.
use Rattle.std.specs.Prelude.{ℕ, Bool, true, false, not, ◌&&◌, if◌then◌else◌, List, [], ◌∷◌, ◌++◌, length, ◌==◌, Option, Some, None, Result, Err}
use Rattle.std.specs.List.{list_any}
use Rattle.std.specs.Result.{result_err}
use Rattle.std.specs.Str.{bytes_eq}
use Rattle.kat_model.specs.Steps.{Atom}
use Rattle.kat_model.specs.Strings.{Move, GuardedString}
use Rattle.line_format.specs.Lines.{parts_of}
use Rattle.line_format.specs.Numerals.{too_wide}
use Rattle.line_format.specs.NumberedLines.{FaultNames, LineFormat, fault_after, lines_from, first_then}
use Rattle.certificate.specs.declared.nodes.Style.{Style}
use Rattle.certificate.specs.declared.nodes.Style.TheVariants.{Plain, UpTo, Under}
use Rattle.certificate.specs.declared.entry.Entry.{Entry}
use Rattle.certificate.specs.declared.entry.Entry.TheVariants.{TestLine, TermLine, PairLine}
use Rattle.certificate.specs.declared.entry.Section.{Section}
use Rattle.certificate.specs.declared.entry.Section.TheVariants.{Tests, Terms, Pairs, TestedPairs}
use Rattle.certificate.specs.declared.evidence.Evidence.{Evidence}
use Rattle.certificate.specs.declared.evidence.Evidence.TheVariants.{Equal, Different}
use Rattle.certificate.specs.declared.evidence.EvidenceFault.{EvidenceFault}
use Rattle.certificate.specs.declared.evidence.EvidenceFault.TheVariants.{Header, Line, NodeOrder, DoubleNode, SetOrder, NumberTooWide, Truncated, Trailing}
use Rattle.term_nodes.specs.Nodes.{test_parts, term_parts, tests_of_term, same_test_node, same_term_node}
use Rattle.term_nodes.specs.NumberSets.{are_below, are_ascending}
use Rattle.certificate.specs.Certs.{CertParts}
use Rattle.certificate.specs.Texts.{maybe_one, entry_words, entry_numbers, move_words, heading, string_heading, entries_of}
use Rattle.certificate.specs.Forms.{entry_of, first_of, move_of}

abbrev pub is_wide : Entry → Bool
is_wide e = list_any too_wide (entry_numbers e)

-- pairs without a test, and pairs with one
abbrev pub pair_section : Option ℕ → Section
pair_section None = Pairs
pair_section (Some k) = TestedPairs

abbrev pub section_of : Entry → Section
section_of (TestLine n) = Tests
section_of (TermLine n) = Terms
section_of (PairLine p) = pair_section p.test

-- whether the pairs of the style have tests
abbrev pub has_tests : Style → Bool
has_tests Plain = false
has_tests UpTo = false
has_tests Under = true

abbrev pub is_empty : {X : Type 0} → List X → Bool
is_empty xs = length xs == 0

-- test nodes precede term nodes, and these precede pairs; pairs have tests if and only if the style does
abbrev pub is_section_allowed : CertParts → Section → Bool
is_section_allowed c Tests = is_empty c.term_nodes && is_empty c.pairs
is_section_allowed c Terms = is_empty c.pairs
is_section_allowed c Pairs = not (has_tests c.style)
is_section_allowed c TestedPairs = has_tests c.style

-- the test nodes that an entry names, and the term nodes
abbrev pub tests_named : Entry → List ℕ
tests_named (TestLine n) = test_parts n
tests_named (TermLine n) = tests_of_term n
tests_named (PairLine p) = maybe_one p.test

abbrev pub terms_named : Entry → List ℕ
terms_named (TestLine n) = []
terms_named (TermLine n) = term_parts n
terms_named (PairLine p) = p.left ++ p.right

-- the entry names only earlier nodes
abbrev pub names_earlier : CertParts → Entry → Bool
names_earlier c e = are_below (length c.test_nodes) (tests_named e) && are_below (length c.term_nodes) (terms_named e)

-- its node equals an earlier node of the same kind
abbrev pub occurs_already : CertParts → Entry → Bool
occurs_already c (TestLine n) = list_any (same_test_node n) c.test_nodes
occurs_already c (TermLine n) = list_any (same_term_node n) c.term_nodes
occurs_already c (PairLine p) = false

-- its sets are ascending
abbrev pub has_order : Entry → Bool
has_order (TestLine n) = true
has_order (TermLine n) = true
has_order (PairLine p) = are_ascending p.left && are_ascending p.right

-- the certificate with an additional entry
abbrev pub with_entry : CertParts → Entry → CertParts
with_entry c (TestLine n) = record c { test_nodes = c.test_nodes ++ n ∷ [] }
with_entry c (TermLine n) = record c { term_nodes = c.term_nodes ++ n ∷ [] }
with_entry c (PairLine p) = record c { pairs = c.pairs ++ p ∷ [] }

-- the string with an additional move
abbrev pub with_move : GuardedString → Move → GuardedString
with_move x m = record { first = x.first; rest = x.rest ++ m ∷ [] }

-- the faults of a text by their names; the last is that of a set that is not ascending
abbrev pub fault_names : FaultNames EvidenceFault
fault_names = record { header = Header; line = Line; wide = NumberTooWide; order = NodeOrder; double = DoubleNode; last = SetOrder; truncated = Truncated; trailing = Trailing }

-- the lines of entries, and those of moves, as formats of numbered lines; a move names no earlier line
abbrev pub entry_format : LineFormat Entry CertParts Evidence EvidenceFault
entry_format = record {
  faults = fault_names;
  words = entry_words;
  read = entry_of;
  numbers = entry_numbers;
  is_allowed = λ c e. is_section_allowed c (section_of e);
  names_earlier = names_earlier;
  occurs_already = occurs_already;
  last_test = has_order;
  with_line = with_entry;
  lines = entries_of;
  value = Equal;
}

abbrev pub move_format : LineFormat Move GuardedString Evidence EvidenceFault
move_format = record {
  faults = fault_names;
  words = move_words;
  read = move_of;
  numbers = λ m. m.act ∷ [];
  is_allowed = λ x m. true;
  names_earlier = λ x m. true;
  occurs_already = λ x m. false;
  last_test = λ m. true;
  with_line = with_move;
  lines = λ x. x.rest;
  value = Different;
}

-- the evidence or the first fault of a text
abbrev pub Answer : Type 0
Answer = Result Evidence EvidenceFault

-- the fault of line n after the entries of c: the line is not an entry, or the entry has a fault
abbrev pub line_fault_after : CertParts → ℕ → Option Entry → Option EvidenceFault
line_fault_after c n o = fault_after entry_format c n o

-- the answer for the lines from line n on, after the entries of c
abbrev pub cert_from : CertParts → ℕ → List (List ℕ) → Answer
cert_from c n parts = lines_from entry_format c n parts

-- the answer for the lines from line n on, after these moves
abbrev pub moves_from : GuardedString → ℕ → List (List ℕ) → Answer
moves_from x n parts = lines_from move_format x n parts

-- the answer for a string: line 2 is its first atom
abbrev pub after_atom : Option Atom → List (List ℕ) → Answer
after_atom None parts = Err (Line 2)
after_atom (Some atom) parts = moves_from (record { first = atom; rest = [] }) 3 parts

abbrev pub after_first : List ℕ → List (List ℕ) → Answer
after_first line parts = after_atom (first_of line) parts

abbrev pub string_from : List (List ℕ) → Answer
string_from parts = first_then fault_names after_first parts

abbrev pub no_entries : Style → CertParts
no_entries style = record { style = style; test_nodes = []; term_nodes = []; pairs = [] }

-- the answer for line 1, which gives the kind of evidence, and the parts after it
abbrev pub after_heading : List ℕ → List (List ℕ) → Answer
after_heading line parts =
    if bytes_eq line (heading Plain) then cert_from (no_entries Plain) 2 parts
    else (if bytes_eq line (heading UpTo) then cert_from (no_entries UpTo) 2 parts
    else (if bytes_eq line (heading Under) then cert_from (no_entries Under) 2 parts
    else (if bytes_eq line string_heading then string_from parts else Err Header)))

abbrev pub all_from : List (List ℕ) → Answer
all_from parts = first_then fault_names after_heading parts

-- the answer for a text
abbrev pub answer_of : List ℕ → Answer
answer_of bytes = all_from (parts_of bytes)

-- the first fault of a text
abbrev pub line_fault : List ℕ → Option EvidenceFault
line_fault bytes = result_err (answer_of bytes)
