-- The content of a line that has a form: its words, and the numbers that they spell.
use Rattle.std.specs.Prelude.{ℕ, Bool, ◌&&◌, ◌||◌, ◌==◌, nat_lt, if◌then◌else◌, List, [], ◌∷◌, length, map, codes, Option, Some, None}
use Rattle.std.specs.List.{slice_split, list_all}
use Rattle.std.specs.Option.{option_map, option_and_then}
use Rattle.std.specs.Str.{bytes_eq}
use Rattle.kat_model.specs.Steps.{Atom}
use Rattle.kat_model.specs.Strings.{Move}
use Rattle.term_nodes.specs.declared.TestNode.{TestNode}
use Rattle.term_nodes.specs.declared.TestNode.TheVariants.{False, True, Prim, Not, And, Or}
use Rattle.term_nodes.specs.declared.TermNode.{TermNode}
use Rattle.term_nodes.specs.declared.TermNode.TheVariants.{Zero, One, Test, Act, Sum, Seq, Star}
use Rattle.line_format.specs.Lines.{words_of}
use Rattle.line_format.specs.Numerals.{is_numeral, value_of, numbers_of}
use Rattle.certificate.specs.declared.entry.Entry.{Entry}
use Rattle.certificate.specs.declared.entry.Entry.TheVariants.{TestLine, TermLine, PairLine}
use Rattle.certificate.specs.PairParts.{PairParts}

-- the node with a name and the numbers after it
abbrev pub test_node_of : List ℕ → List ℕ → Option (TestNode ℕ)
test_node_of name [] = if bytes_eq name (codes "false") then Some False else (if bytes_eq name (codes "true") then Some True else None)
test_node_of name (x ∷ []) = if bytes_eq name (codes "prim") then Some (Prim x) else (if bytes_eq name (codes "not") then Some (Not x) else None)
test_node_of name (x ∷ y ∷ []) = if bytes_eq name (codes "and") then Some (And x y) else (if bytes_eq name (codes "or") then Some (Or x y) else None)
test_node_of name (x ∷ y ∷ z ∷ ks) = None

abbrev pub term_node_of : List ℕ → List ℕ → Option (TermNode ℕ ℕ)
term_node_of name [] = if bytes_eq name (codes "zero") then Some Zero else (if bytes_eq name (codes "one") then Some One else None)
term_node_of name (x ∷ []) =
    if bytes_eq name (codes "test") then Some (Test x)
    else (if bytes_eq name (codes "act") then Some (Act x) else (if bytes_eq name (codes "star") then Some (Star x) else None))
term_node_of name (x ∷ y ∷ []) = if bytes_eq name (codes "sum") then Some (Sum x y) else (if bytes_eq name (codes "seq") then Some (Seq x y) else None)
term_node_of name (x ∷ y ∷ z ∷ ks) = None

abbrev pub is_bar : List ℕ → Bool
is_bar w = bytes_eq w (codes "|")

-- the pair of two sets of numbers, or of two sets and the one number of a test, if all numbers are spelled
abbrev pub pair_with : List (Option (List ℕ)) → Option PairParts
pair_with (Some ks ∷ Some ls ∷ []) = Some (record { left = ks; right = ls; test = None })
pair_with (Some ks ∷ Some ls ∷ Some (t ∷ []) ∷ []) = Some (record { left = ks; right = ls; test = Some t })
pair_with parts = None

-- bars separate the parts of a pair
abbrev pub pair_of : List (List ℕ) → Option PairParts
pair_of ws = pair_with (map numbers_of (slice_split is_bar ws))

-- a test node, a term node or a pair, by the first word
abbrev pub entry_of_words : List (List ℕ) → Option Entry
entry_of_words [] = None
entry_of_words (kind ∷ []) = None
entry_of_words (kind ∷ name ∷ ws) =
    if bytes_eq kind (codes "T") then option_map TestLine (option_and_then (test_node_of name) (numbers_of ws))
    else (if bytes_eq kind (codes "E") then option_map TermLine (option_and_then (term_node_of name) (numbers_of ws))
    else (if bytes_eq kind (codes "P") then option_map PairLine (pair_of (name ∷ ws)) else None))

abbrev pub entry_of : List ℕ → Option Entry
entry_of line = entry_of_words (words_of line)

-- the truth values of no word, or of one word of bits
abbrev pub is_bit : ℕ → Bool
is_bit c = c == 48 || c == 49

abbrev pub bits_of : List ℕ → Option Atom
bits_of w = if nat_lt 0 (length w) && list_all is_bit w then Some (map (λ c. c == 49) w) else None

abbrev pub atom_of_words : List (List ℕ) → Option Atom
atom_of_words [] = Some []
atom_of_words (w ∷ []) = bits_of w
atom_of_words (w ∷ v ∷ ws) = None

-- the first atom of a string
abbrev pub first_of_words : List (List ℕ) → Option Atom
first_of_words [] = None
first_of_words (kind ∷ ws) = if bytes_eq kind (codes "A") then atom_of_words ws else None

abbrev pub first_of : List ℕ → Option Atom
first_of line = first_of_words (words_of line)

-- a move of a string: an action, and the atom after it
abbrev pub move_after : List ℕ → List (List ℕ) → Option Move
move_after act ws = if is_numeral act then option_map (λ atom. record { act = value_of act; atom = atom }) (atom_of_words ws) else None

abbrev pub move_of_words : List (List ℕ) → Option Move
move_of_words [] = None
move_of_words (kind ∷ []) = None
move_of_words (kind ∷ act ∷ ws) = if bytes_eq kind (codes "M") then move_after act ws else None

abbrev pub move_of : List ℕ → Option Move
move_of line = move_of_words (words_of line)
