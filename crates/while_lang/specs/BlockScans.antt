-- The syntax check of a block: finds its end, or its first fault.
use Rattle.std.specs.Prelude.{◌≡◌, ◌↔◌, ℕ, List, Result, Ok}
use Rattle.text_parser.specs.declared.fault.TextFault.{TextFault}
use Rattle.text_parser.specs.Lexemes.{Lexeme}
use Rattle.text_parser.specs.Parsed.{◌>>=◌}
use Rattle.text_parser.specs.Scans.{scanning}
use Rattle.while_lang.specs.BlockActions.{BlockActions}
use Rattle.while_lang.specs.Blocks.{block, parse_block}
use Rattle.while_lang.specs.BlockPhrases.{block as block_symbol, IsBlockPhrase}

-- actions that make nothing and accept every part
abbrev pub scanning_blocks : BlockActions (Unit {0}) (Unit {0}) (Unit {0}) (Unit {0}) (Unit {0}) (Unit {0})
scanning_blocks = record {
  phrases = scanning;
  none = tt;
  skip = λ s. tt;
  abort = λ s. tt;
  assert = λ s b. tt;
  named = λ d at name s. Ok tt;
  target = λ at name. Ok tt;
  assign = λ s name e. tt;
  branch = λ s b p q. tt;
  turn = λ s b p. tt;
  braced = λ s. tt;
  chained = λ s. tt;
}

-- the tokens after the block at the start, with `d` constructs open
abbrev pub scan_block : ℕ → List Lexeme → Result (List Lexeme) TextFault
scan_block d ts = parse_block scanning_blocks block d ts >>= λ x. Ok x.1

-- the check accepts exactly the blocks
abbrev pub TakesBlocks : Type 0
TakesBlocks = (d : ℕ) (ts rest : List Lexeme) → (scan_block d ts ≡ Ok rest) ↔ IsBlockPhrase block_symbol d ts rest
