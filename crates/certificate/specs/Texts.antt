-- The text of evidence: its lines, each of which has one spelling.
use Rattle.std.specs.Prelude.{ℕ, ◌^◌, ◌<◌, if◌then◌else◌, List, [], ◌∷◌, ◌++◌, map, codes, Option, Some, None}
use Rattle.std.specs.Fmt.{decimal}
use Rattle.kat_model.specs.Members.{Has}
use Rattle.kat_model.specs.Steps.{Atom}
use Rattle.kat_model.specs.Strings.{Move}
use Rattle.term_nodes.specs.declared.TestNode.{TestNode}
use Rattle.term_nodes.specs.declared.TestNode.TheVariants.{False, True, Prim, Not, And, Or}
use Rattle.term_nodes.specs.declared.TermNode.{TermNode}
use Rattle.term_nodes.specs.declared.TermNode.TheVariants.{Zero, One, Test, Act, Sum, Seq, Star}
use Rattle.line_format.specs.Lines.{line_of, text_of_lines}
use Rattle.certificate.specs.declared.nodes.Style.{Style}
use Rattle.certificate.specs.declared.nodes.Style.TheVariants.{Plain, UpTo, Under}
use Rattle.certificate.specs.declared.entry.Entry.{Entry}
use Rattle.certificate.specs.declared.entry.Entry.TheVariants.{TestLine, TermLine, PairLine}
use Rattle.certificate.specs.declared.evidence.Evidence.{Evidence}
use Rattle.certificate.specs.declared.evidence.Evidence.TheVariants.{Equal, Different}
use Rattle.certificate.specs.Certs.{CertParts, IsCert}

-- the name of a node's form, and the numbers that follow it
abbrev pub test_name : TestNode ℕ → List ℕ
test_name False = codes "false"
test_name True = codes "true"
test_name (Prim k) = codes "prim"
test_name (Not x) = codes "not"
test_name (And x y) = codes "and"
test_name (Or x y) = codes "or"

abbrev pub test_numbers : TestNode ℕ → List ℕ
test_numbers False = []
test_numbers True = []
test_numbers (Prim k) = k ∷ []
test_numbers (Not x) = x ∷ []
test_numbers (And x y) = x ∷ y ∷ []
test_numbers (Or x y) = x ∷ y ∷ []

abbrev pub term_name : TermNode ℕ ℕ → List ℕ
term_name Zero = codes "zero"
term_name One = codes "one"
term_name (Test x) = codes "test"
term_name (Act a) = codes "act"
term_name (Sum x y) = codes "sum"
term_name (Seq x y) = codes "seq"
term_name (Star x) = codes "star"

abbrev pub term_numbers : TermNode ℕ ℕ → List ℕ
term_numbers Zero = []
term_numbers One = []
term_numbers (Test x) = x ∷ []
term_numbers (Act a) = a ∷ []
term_numbers (Sum x y) = x ∷ y ∷ []
term_numbers (Seq x y) = x ∷ y ∷ []
term_numbers (Star x) = x ∷ []

-- no number, or one
abbrev pub maybe_one : Option ℕ → List ℕ
maybe_one None = []
maybe_one (Some k) = k ∷ []

-- the words that end the line of a pair, with its test if it has one; the words of the line of a test node, a term node
-- or a pair
abbrev pub last_words : Option ℕ → List (List ℕ)
last_words None = []
last_words (Some k) = codes "|" ∷ decimal k ∷ []

abbrev pub entry_words : Entry → List (List ℕ)
entry_words (TestLine n) = codes "T" ∷ test_name n ∷ map decimal (test_numbers n)
entry_words (TermLine n) = codes "E" ∷ term_name n ∷ map decimal (term_numbers n)
entry_words (PairLine p) = codes "P" ∷ (map decimal p.left ++ codes "|" ∷ (map decimal p.right ++ last_words p.test))

-- the numbers in an entry
abbrev pub entry_numbers : Entry → List ℕ
entry_numbers (TestLine n) = test_numbers n
entry_numbers (TermLine n) = term_numbers n
entry_numbers (PairLine p) = p.left ++ (p.right ++ maybe_one p.test)

-- one `0` or `1` for each test, and no word if there are no tests
abbrev pub atom_bits : Atom → List ℕ
atom_bits atom = map (λ b. if b then 49 else 48) atom

abbrev pub bit_words : Atom → List (List ℕ)
bit_words [] = []
bit_words (b ∷ bs) = atom_bits (b ∷ bs) ∷ []

-- the words of the lines of a string
abbrev pub atom_words : Atom → List (List ℕ)
atom_words atom = codes "A" ∷ bit_words atom

abbrev pub move_words : Move → List (List ℕ)
move_words m = codes "M" ∷ decimal m.act ∷ bit_words m.atom

-- the first line of each kind of evidence
abbrev pub heading : Style → List ℕ
heading Plain = codes "kat 1 equal"
heading UpTo = codes "kat 2 equal"
heading Under = codes "kat 1 equal under"

abbrev pub string_heading : List ℕ
string_heading = codes "kat 1 different"

-- test nodes, then term nodes, then pairs
abbrev pub entries_of : CertParts → List Entry
entries_of c = map TestLine c.test_nodes ++ (map TermLine c.term_nodes ++ map PairLine c.pairs)

-- the lines of evidence before the last one
abbrev pub lines_before_end : Evidence → List (List ℕ)
lines_before_end (Equal c) = heading c.style ∷ map (λ e. line_of (entry_words e)) (entries_of c)
lines_before_end (Different x) = string_heading ∷ line_of (atom_words x.first) ∷ map (λ m. line_of (move_words m)) x.rest

-- the lines of evidence
abbrev pub lines_of : Evidence → List (List ℕ)
lines_of e = lines_before_end e ++ codes "end" ∷ []

-- the one spelling of evidence
abbrev pub text_of : Evidence → List ℕ
text_of e = text_of_lines (lines_of e)

-- the numbers of an entry are numbers of the program
abbrev pub IsNarrow : Entry → Type 0
IsNarrow e = (k : ℕ) → Has (entry_numbers e) k → k < 2 ^ 64

-- evidence of the program: a certificate that keeps the rules, or a string, and numbers of the program
abbrev pub IsEvidence : Evidence → Type 0
IsEvidence (Equal c) = IsCert c × ((e : Entry) → Has (entries_of c) e → IsNarrow e)
IsEvidence (Different x) = (m : Move) → Has x.rest m → m.act < 2 ^ 64
