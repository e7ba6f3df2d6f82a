-- The syntax test of a whole chain.
use Rattle.std.specs.Prelude.{ℕ, ◌+◌, List, [], ◌∷◌, length, false, Result, Ok, Err}
use Rattle.std.proofs.Common.{arith}
use Rattle.text_parser.specs.declared.fault.TextFault.{TextFault}
use Rattle.text_parser.specs.declared.fault.TextFault.TheVariants.{Syntax}
use Rattle.text_parser.specs.Lexemes.{Lexeme, lexeme}
use Rattle.text_parser.specs.Parsed.{Parsed, ◌>>=◌, change}
use Rattle.text_parser.specs.Actions.{context}
use Rattle.text_parser.specs.Scans.{scanning}
use Rattle.text_parser.specs.Terms.{parse_term, choice}
use Rattle.text_parser.proofs.Within.{Within}
use Rattle.text_parser.proofs.TermSteps.{term_read_short}
use Rattle.chain_proofs.specs.ChainActions.{LeavesFewer, ChainActions}
use Rattle.chain_proofs.specs.ChainWalks.{whole_chain, parse_chain}

-- reads the term at the start without a value
abbrev pub scanned_term : ℕ → List Lexeme → Parsed (Unit {0} × Unit {0})
scanned_term d ts = change (λ u. (tt, tt)) (parse_term scanning choice (context d false false) ts)

pub scanned_shorter : (d : ℕ) (ts : List Lexeme) → LeavesFewer ts (scanned_term d ts)
scanned_shorter d ts = by_result (parse_term scanning choice (context d false false) ts) (term_read_short scanning choice (context d false false) ts) where
  by_result : (m : Parsed (Unit {0})) → Within (length ts + 0) m → LeavesFewer {V = Unit {0} × Unit {0}} ts (change (λ u. (tt, tt)) m)
  by_result (Ok x) h = omega arith
  by_result (Err e) h = tt

-- makes nothing and refuses no part
abbrev pub scanning_chain : ChainActions (Unit {0}) (Unit {0}) (Unit {0}) (Unit {0}) (Unit {0})
scanning_chain = record {
  term = λ d z ts. scanned_term d ts;
  shorter = λ d z ts. scanned_shorter d ts;
  rule = λ at name n. Ok tt;
  whole = tt;
  part = λ p n. tt;
  first = λ t. tt;
  line = λ v t r p i. tt;
}

-- no token remains
abbrev pub ends : List Lexeme → Result (Unit {0}) TextFault
ends [] = Ok tt
ends (lexeme s at text ∷ ts) = Err (Syntax at)

-- succeeds if the tokens are exactly one chain; otherwise gives the first syntax fault
abbrev pub scan_chain : List Lexeme → Result (Unit {0}) TextFault
scan_chain ts = parse_chain scanning_chain (whole_chain tt) 0 ts >>= λ x. ends x.1
