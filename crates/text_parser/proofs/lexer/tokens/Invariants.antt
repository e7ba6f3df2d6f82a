use Rattle.std.proofs.Common.{◌≡◌, ◌+◌, ℕ, List, ◌++◌, length, drop}
use denote.Text.{Utf8}
use denote.Shadow.{shadow}
use Rattle.text_parser.specs.Lex.{LexesFrom}
use Rattle.text_parser.specs.TokenParts.{TokenParts, parts_of_tokens}
use Rattle.text_parser.proofs.lexer.tokens.Given as goal

-- `rest` is the text from `at` on, and its tokens continue those found so far
abbrev pub invariant-loop-rest : goal.invariant-loop-rest
invariant-loop-rest l = record {
  utf8 : shadow (Utf8 l.rest);
  rest : l.rest ≡ drop l.at l.text;
  place : l.at + length l.rest ≡ length l.text;
  whole : (more : List TokenParts) (end : ℕ) → LexesFrom l.text l.at more end → LexesFrom l.text 0 (parts_of_tokens l.found.items ++ more) end;
}

abbrev pub decreases-loop-rest : goal.decreases-loop-rest
decreases-loop-rest l = length l.rest
