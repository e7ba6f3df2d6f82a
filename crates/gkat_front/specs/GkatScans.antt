-- The syntax test of expressions.
use Rattle.std.specs.Prelude.{ℕ, ◌+◌, List, length, false, true, Ok}
use Rattle.std.proofs.Common.{arith}
use Rattle.text_parser.specs.Lexemes.{Lexeme}
use Rattle.text_parser.specs.Parsed.{Parsed}
use Rattle.text_parser.specs.Actions.{context}
use Rattle.text_parser.specs.Scans.{scanning_conds}
use Rattle.text_parser.specs.Conds.{parse_cond, disjunction}
use Rattle.text_parser.proofs.Within.{Within, weaken}
use Rattle.text_parser.proofs.CondSteps.{cond_read_short}
use Rattle.gkat_front.specs.GkatActions.{GkatActions}

-- reads a condition with this number of open constructs around it, without a value
abbrev pub scanned_cond : ℕ → List Lexeme → Parsed (Unit {0})
scanned_cond d ts = parse_cond scanning_conds disjunction (context d false true) ts

pub scanned_shorter : (d : ℕ) (ts : List Lexeme) → Within (length ts) (scanned_cond d ts)
scanned_shorter d ts = weaken (length ts + 0) (length ts) (scanned_cond d ts) (omega arith) (cond_read_short scanning_conds disjunction (context d false true) ts)

-- makes nothing and refuses no part
abbrev pub scanning_expr : GkatActions (Unit {0}) (Unit {0}) (Unit {0})
scanning_expr = record {
  cond = scanned_cond;
  shorter = scanned_shorter;
  never = tt;
  always = tt;
  name = λ at text. Ok tt;
  test = λ c. tt;
  first = λ v. tt;
  more = λ p v. tt;
  product = λ p. tt;
  choice = λ c v w. tt;
  loop = λ c v. tt;
}
