-- The pieces of `x := 12;` and a line feed, and their tokens.
use Rattle.std.proofs.Common.{List, [], ◌∷◌, refl, lit≤}
use Rattle.std.specs.Prelude.{codes}
use Rattle.text_parser.specs.declared.token.Kind.TheVariants.{Name, Number, Symbol}
use Rattle.text_parser.specs.TokenParts.{token_parts}
use Rattle.text_parser.specs.Lex.{Lexes}
use Rattle.text_parser.specs.Pieces.{Piece, word, numeral, symbol, gap, AreSeparate}
use Rattle.text_parser.proofs.Printed.{printed}
use Rattle.text_parser.proofs.PrintedWords.{word_is_name}

abbrev set_x : List Piece
set_x = word (codes "x") ∷ gap 32 ∷ symbol (codes ":=") ∷ gap 32 ∷ numeral (codes "12") ∷ symbol (codes ";") ∷ gap 10 ∷ []

set_x_is_separate : AreSeparate set_x
set_x_is_separate = (word_is_name (codes "x") refl, refl, (refl, (refl, refl, (refl, (refl, refl, (refl, refl, (refl, tt)))))))

set_x_tokens : Lexes (codes "x := 12;\n") (token_parts Name 0 (codes "x") ∷ token_parts Symbol 2 (codes ":=") ∷ token_parts Number 5 (codes "12") ∷ token_parts Symbol 7 (codes ";") ∷ [])
set_x_tokens = printed set_x set_x_is_separate (lit≤ tt)
