-- The reading of a printed text.
use Rattle.std.specs.Prelude.{◌≡◌, ℕ, List, [], map, Result, Ok}
use Rattle.text_parser.specs.declared.fault.TextFault.{TextFault}
use Rattle.text_parser.specs.Lex.{Lexes}
use Rattle.text_parser.specs.Pieces.{Piece, spelled, parts_from}
use Rattle.text_parser.specs.Lexemes.{Lexeme, lexeme_of}
use Rattle.text_parser.specs.Readings.{Phrased}

-- the text of the pieces has tokens, which read as `tree` with no tokens left
pub record ReadsBack {V : Type 0} (ps : List Piece) (read : List Lexeme → Result (Phrased V) TextFault) (tree : V) (levels : ℕ) : Type 0 where
  pub lexes : Lexes (spelled ps) (parts_from 0 ps)
  pub reads : read (map lexeme_of (parts_from 0 ps)) ≡ Ok (record { tree = tree; nesting = levels; rest = [] })
