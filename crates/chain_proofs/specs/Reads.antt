-- The answer to bytes: the chain that they spell, or their first fault.
use Rattle.std.specs.Prelude.{◌≡◌, ◌⊎◌, ℕ, List, [], map, Result, Ok, Err}
use Rattle.text_parser.specs.declared.fault.TextFault.{TextFault}
use Rattle.text_parser.specs.declared.fault.TextFault.TheVariants.{NoMemory}
use Rattle.text_parser.specs.TokenParts.{TokenParts}
use Rattle.text_parser.specs.Lex.{Lexes}
use Rattle.text_parser.specs.Lexemes.{Lexeme, lexeme_of}
use Rattle.text_parser.specs.Parsed.{◌>>=◌}
use Rattle.text_parser.specs.ScopeParts.{ScopeParts}
use Rattle.problem_file.specs.FirstFaults.{IsFirstFault}
use Rattle.chain_rules.specs.Chains.{ChainTree}
use Rattle.chain_proofs.specs.ChainPhrases.{IsChainPhrase}
use Rattle.chain_proofs.specs.ChainFolds.{chain_of}
use Rattle.chain_proofs.specs.ChainScans.{scan_chain}
use Rattle.chain_proofs.specs.ChainMaking.{make_chain}
use Rattle.problem_file.specs.NumberedScopes.{numbered_scope}

-- The bytes spell this chain: their tokens are a chain in which nothing is too deep or too wide, and the phrase denotes
-- this chain with the numbered names of a proof.
pub record Reads (tests actions : ℕ) (bytes : List ℕ) (c : ChainTree) : Type 0 where
  pub parts_of_tokens : List TokenParts
  pub lexes : Lexes bytes parts_of_tokens
  pub spells : IsChainPhrase 0 (map lexeme_of parts_of_tokens) []
  pub chain : chain_of (numbered_scope tests actions) spells.phrase ≡ Ok c

-- tests the tokens: first their syntax, then their names and sizes
abbrev pub tested : ScopeParts → List Lexeme → Result ChainTree TextFault
tested w ts = scan_chain ts >>= λ u. make_chain w ts

-- the first fault of the bytes, in the order in which faults are reported
abbrev pub FirstFault : ℕ → ℕ → List ℕ → TextFault → Type 0
FirstFault tests actions bytes e = IsFirstFault (tested (numbered_scope tests actions)) bytes e

-- the answer to the bytes: the chain that they spell, their first fault, or out of memory
abbrev pub Answers : ℕ → ℕ → List ℕ → Result ChainTree TextFault → Type 0
Answers tests actions bytes (Ok c) = Reads tests actions bytes c
Answers tests actions bytes (Err e) = (e ≡ NoMemory) ⊎ FirstFault tests actions bytes e
