-- The laws of texts. Each is the contract of a function that does nothing.
use Rattle.std.specs.Prelude.{◌≡◌, ◌↔◌, ◌≤◌, ℕ, List, [], length, map, Ok}
use Rattle.kat_model.specs.declared.limits.TheConstants.{MAX_OPEN}
use Rattle.text_parser.specs.declared.lexer.TheConstants.{MAX_LEN}
use Rattle.text_parser.specs.Lex.{Lexes}
use Rattle.text_parser.specs.Pieces.{Piece, spelled as bytes_of, parts_from}
use Rattle.text_parser.specs.Lexemes.{Lexeme, lexeme_of}
use Rattle.text_parser.specs.declared.meaning.Meaning.{Meaning}
use Rattle.text_parser.specs.ScopeParts.{ScopeParts}
use Rattle.gkat_front.specs.Expressions.{GkatTree}
use Rattle.gkat_front.specs.GkatPhrases.{expr, IsGkatPhrase}
use Rattle.gkat_front.specs.GkatFolds.{gkat_of}
use Rattle.gkat_front.specs.Files.{start}
use Rattle.gkat_front.specs.FilePhrases.{GkatItem, spelled, ItemsObey, AreSpelledBy}
use Rattle.gkat_front.specs.FileFolds.{made_by}
use Rattle.gkat_front.specs.Making.{scan_file, parse_items}
use Rattle.gkat_front.specs.Printing.{gkat_pieces, GkatIsNamed, gkat_nesting}

-- the syntax test accepts the tokens if and only if they spell items in which nothing is too deep or too wide
abbrev pub TextsAreScanned : Type 0
TextsAreScanned = (ts : List Lexeme) → (scan_file ts ≡ Ok tt) ↔ ((items : List GkatItem) × AreSpelledBy items ts)

-- the state after the tokens of items is the state after the items
abbrev pub TextsAreMade : Type 0
TextsAreMade = (items : List GkatItem) → ItemsObey items → parse_items (spelled items) ≡ made_by start items

-- the tokens of the text of the pieces are those of one side of `equal` with nothing after it, and this side has the
-- given tree in the scope
pub record ReadsBack (w : ScopeParts) (ps : List Piece) (e : GkatTree) : Type 0 where
  pub lexes : Lexes (bytes_of ps) (parts_from 0 ps)
  pub phrase : IsGkatPhrase expr 0 (map lexeme_of (parts_from 0 ps)) []
  pub tree : gkat_of w phrase.phrase ≡ Ok e

-- text printed with the names of the scope reads back to the same expression, if its length and nesting are within the
-- limits
abbrev pub PrintedReadsBack : Type 0
PrintedReadsBack =
    (w : ScopeParts) (names : Meaning → List ℕ) (e : GkatTree) → GkatIsNamed w names e →
    length (bytes_of (gkat_pieces names e [])) ≤ MAX_LEN → gkat_nesting e ≤ MAX_OPEN → ReadsBack w (gkat_pieces names e []) e
