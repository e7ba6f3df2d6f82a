-- The laws of certificates and of the text of evidence. Each is the contract of a function of the crate that does
-- nothing.
use Rattle.std.specs.Prelude.{◌≡◌, ◌≢◌, ◌↔◌, ◌+◌, ◌^◌, ◌<◌, ℕ, true, false, ◌==◌, List, ◌∷◌, ◌++◌, length, slice_get, codes, Some, None, ◌||◌, Bool}
use Rattle.std.specs.List.{list_any, list_all}
use Rattle.std.specs.Char.{is_ascii_alphanumeric}
use Rattle.kat_model.specs.Steps.{Atom}
use Rattle.kat_model.specs.Strings.{Move, GuardedString}
use Rattle.kat_model.specs.Problems.{ProblemParts}
use Rattle.kat_model.specs.Relations.{Same}
use Rattle.string_tables.specs.Tables.{ExactlyOne}
use Rattle.term_nodes.specs.declared.TestNode.{TestNode}
use Rattle.term_nodes.specs.declared.TermNode.{TermNode}
use Rattle.line_format.specs.Lines.{line_of, text_of_lines}
use Rattle.line_format.specs.Numerals.{too_wide}
use Rattle.certificate.specs.declared.entry.Entry.{Entry}
use Rattle.certificate.specs.declared.evidence.Evidence.{Evidence}
use Rattle.certificate.specs.declared.evidence.EvidenceFault.{EvidenceFault}
use Rattle.certificate.specs.Certs.{CertParts, IsCert, nodes_of}
use Rattle.term_nodes.specs.NodeTrees.{test_trees, trees, test_tree_in, tree_in}
use Rattle.certificate.specs.Accepted.{IsAccepted}
use Rattle.certificate.specs.Forms.{entry_of, first_of, move_of}
use Rattle.certificate.specs.Texts.{entry_words, atom_words, move_words, heading, string_heading, lines_before_end, text_of, IsNarrow, IsEvidence}
use Rattle.certificate.specs.declared.nodes.Style.TheVariants.{Plain, UpTo, Under}
use Rattle.certificate.specs.declared.evidence.Evidence.TheVariants.{Equal, Different}
use Rattle.certificate.specs.declared.evidence.EvidenceFault.TheVariants.{Header, Line, NumberTooWide, Truncated, Trailing}
use Rattle.certificate.specs.Faults.{line_fault_after, line_fault}

-- different evidence has different texts
abbrev pub TextsDiffer : Type 0
TextsDiffer = (e f : Evidence) → IsEvidence e → IsEvidence f → text_of e ≡ text_of f → e ≡ f

-- some evidence has this text
abbrev pub IsText : List ℕ → Type 0
IsText bytes = (e : Evidence) × IsEvidence e × (bytes ≡ text_of e)

abbrev pub HasFault : List ℕ → Type 0
HasFault bytes = (fault : EvidenceFault) × (line_fault bytes ≡ Some fault)

-- bytes are the text of some evidence, or have a first fault, and not both
abbrev pub IsTextOrFaulty : Type 0
IsTextOrFaulty = (bytes : List ℕ) → ExactlyOne (IsText bytes) (HasFault bytes)

-- a line, without its line feed
abbrev pub IsLine : List ℕ → Type 0
IsLine line = list_any (λ b. b == 10) line ≡ false

-- the text has the lines of this evidence before its last one, then this line, and then more bytes
abbrev pub text_with : Evidence → List ℕ → List ℕ → List ℕ
text_with e line more = text_of_lines (lines_before_end e) ++ (line ++ 10 ∷ more)

-- the number of the line that follows
abbrev pub next_line : Evidence → ℕ
next_line e = length (lines_before_end e) + 1

-- A line is read as an entry, an atom or a move if and only if it is its spelling.
pub record LinesHaveOneSpelling (line : List ℕ) : Type 0 where
  pub entry : (e : Entry) → IsNarrow e → (entry_of line ≡ Some e) ↔ (line ≡ line_of (entry_words e))
  pub first : (atom : Atom) → (first_of line ≡ Some atom) ↔ (line ≡ line_of (atom_words atom))
  pub move : (m : Move) → m.act < 2 ^ 64 → (move_of line ≡ Some m) ↔ (line ≡ line_of (move_words m))

abbrev pub EachHasOneSpelling : Type 0
EachHasOneSpelling = (line : List ℕ) → LinesHaveOneSpelling line

-- What is wrong after correct lines is the first fault of a text.
pub record FaultsAreFirst : Type 0 where
  pub header : (line more : List ℕ) → IsLine line → line ≢ heading Plain → line ≢ heading UpTo → line ≢ heading Under → line ≢ string_heading → line_fault (line ++ 10 ∷ more) ≡ Some Header
  pub first : (line more : List ℕ) → IsLine line → first_of line ≡ None → line_fault (string_heading ++ 10 ∷ (line ++ 10 ∷ more)) ≡ Some (Line 2)
  pub entry : (c : CertParts) (line more : List ℕ) (fault : EvidenceFault) → IsEvidence (Equal c) → IsLine line → line ≢ codes "end" → line_fault_after c (next_line (Equal c)) (entry_of line) ≡ Some fault → line_fault (text_with (Equal c) line more) ≡ Some fault
  pub move : (x : GuardedString) (line more : List ℕ) → IsEvidence (Different x) → IsLine line → line ≢ codes "end" → move_of line ≡ None → line_fault (text_with (Different x) line more) ≡ Some (Line (next_line (Different x)))
  pub wide : (x : GuardedString) (line more : List ℕ) (m : Move) → IsEvidence (Different x) → IsLine line → line ≢ codes "end" → move_of line ≡ Some m → too_wide m.act ≡ true → line_fault (text_with (Different x) line more) ≡ Some (NumberTooWide (next_line (Different x)))
  pub no_line : (rest : List ℕ) → IsLine rest → line_fault rest ≡ Some Truncated
  pub one_line : (rest : List ℕ) → IsLine rest → line_fault (string_heading ++ 10 ∷ rest) ≡ Some Truncated
  pub truncated : (e : Evidence) (rest : List ℕ) → IsEvidence e → IsLine rest → line_fault (text_of_lines (lines_before_end e) ++ rest) ≡ Some Truncated
  pub trailing : (e : Evidence) (b : ℕ) (more : List ℕ) → IsEvidence e → line_fault (text_of e ++ b ∷ more) ≡ Some (Trailing (next_line e + 1))

-- a letter, a digit, a blank, a bar or a line feed
abbrev pub is_plain : ℕ → Bool
is_plain b = is_ascii_alphanumeric b || (b == 32 || (b == 124 || b == 10))

abbrev pub IsPlain : List ℕ → Type 0
IsPlain bytes = list_all is_plain bytes ≡ true

-- the text of evidence has no other bytes, so it is ASCII and can be part of a text of another format
abbrev pub TextsArePlain : Type 0
TextsArePlain = (e : Evidence) → IsPlain (text_of e)

-- each node has the tree that it describes, over the trees of the nodes that it names
pub record HasNodeTrees (c : CertParts) : Type 0 where
  pub tests : (k : ℕ) (n : TestNode ℕ) → slice_get c.test_nodes k ≡ Some n → slice_get (test_trees (nodes_of c)) k ≡ Some (test_tree_in (nodes_of c) n)
  pub terms : (k : ℕ) (n : TermNode ℕ ℕ) → slice_get c.term_nodes k ≡ Some n → slice_get (trees (nodes_of c)) k ≡ Some (tree_in (nodes_of c) n)

abbrev pub NodesHaveTrees : Type 0
NodesHaveTrees = (c : CertParts) → IsCert c → HasNodeTrees c

-- an accepted certificate shows that both sides are the same
abbrev pub AcceptedAreSame : Type 0
AcceptedAreSame = (q : ProblemParts) (c : CertParts) → IsAccepted q c → Same q
