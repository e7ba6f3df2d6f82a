-- The laws of proof texts. Each is the contract of a function that does nothing.
use Rattle.std.specs.Prelude.{◌≡◌, ◌↔◌, List, [], Ok}
use Rattle.text_parser.specs.Lexemes.{Lexeme}
use Rattle.text_parser.specs.Phrases.{MeetsLookahead}
use Rattle.text_parser.specs.ScopeParts.{ScopeParts}
use Rattle.chain_proofs.specs.ChainScans.{scan_chain}
use Rattle.chain_proofs.specs.ChainMaking.{make_chain}
use Rattle.chain_proofs.specs.ChainPhrases.{ChainPhrase, lines_onto, chain_onto, LinesObey, IsChainPhrase}
use Rattle.chain_proofs.specs.ChainFolds.{chain_of}

-- the syntax test accepts the tokens if and only if they are one chain in which nothing is too deep or too wide
abbrev pub ChainsAreScanned : Type 0
ChainsAreScanned = (ts : List Lexeme) → (scan_chain ts ≡ Ok tt) ↔ IsChainPhrase 0 ts []

-- the chain made from the tokens of a chain is the chain of the phrase: its terms, and its lines in text order, each
-- with the rule, the path and the inner chain
abbrev pub ChainsAreMade : Type 0
ChainsAreMade =
    (w : ScopeParts) (p : ChainPhrase) → MeetsLookahead p.first (lines_onto p.lines []) → LinesObey p.lines [] →
    make_chain w (chain_onto p []) ≡ chain_of w p
