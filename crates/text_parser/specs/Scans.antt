-- The syntax check: finds the end of a phrase, or its first fault.
use Rattle.std.specs.Prelude.{◌≡◌, ◌↔◌, ℕ, List, true, false, Result, Ok}
use Rattle.text_parser.specs.declared.fault.TextFault.{TextFault}
use Rattle.text_parser.specs.Lexemes.{Lexeme}
use Rattle.text_parser.specs.Parsed.{◌>>=◌}
use Rattle.text_parser.specs.Actions.{ExprActions, CondActions, Actions, context}
use Rattle.text_parser.specs.Exprs.{parse_expr, sums}
use Rattle.text_parser.specs.Conds.{parse_cond, disjunction}
use Rattle.text_parser.specs.Terms.{parse_term, choice}
use Rattle.text_parser.specs.Phrases.{Symbol, IsPhrase}

-- actions on expressions that make nothing and accept every part
abbrev pub scanning_exprs : ExprActions (Unit {0})
scanning_exprs = record {
  number = λ c at n. Ok tt;
  variable = λ c at text. Ok tt;
  join = λ o e f. tt;
  enclosed = λ e. tt;
}

-- likewise for conditions
abbrev pub scanning_conds : CondActions (Unit {0}) (Unit {0}) (Unit {0})
scanning_conds = record {
  exprs = scanning_exprs;
  always = tt;
  never = tt;
  named = λ c at text. Ok tt;
  compare = λ r e f. tt;
  negated = λ b. tt;
  enclosed = λ b. tt;
  one_of = λ b. tt;
  more = λ l b. tt;
  all = λ l. tt;
  any = λ l. tt;
}

-- likewise for terms
abbrev pub scanning : Actions (Unit {0}) (Unit {0}) (Unit {0}) (Unit {0}) (Unit {0})
scanning = record {
  conds = scanning_conds;
  zero = tt;
  one = tt;
  named = λ c at text. Ok tt;
  negated = λ t. tt;
  tested = λ b. tt;
  enclosed = λ t. tt;
  starred = λ c at t. Ok tt;
  one_of = λ t. tt;
  more = λ m t. tt;
  sum = λ m. tt;
  product = λ m. tt;
}

-- the tokens after the term at the start, with `d` constructs open
abbrev pub scan_term : ℕ → List Lexeme → Result (List Lexeme) TextFault
scan_term d ts = parse_term scanning choice (context d false true) ts >>= λ x. Ok x.1

-- likewise for a condition
abbrev pub scan_cond : ℕ → List Lexeme → Result (List Lexeme) TextFault
scan_cond d ts = parse_cond scanning_conds disjunction (context d false true) ts >>= λ x. Ok x.1

-- likewise for an expression
abbrev pub scan_expr : ℕ → List Lexeme → Result (List Lexeme) TextFault
scan_expr d ts = parse_expr scanning_exprs sums (context d false true) ts >>= λ x. Ok x.1

-- the check accepts exactly the phrases of `x`
abbrev pub TakesPhrases : Symbol → (ℕ → List Lexeme → Result (List Lexeme) TextFault) → Type 0
TakesPhrases x scan = (d : ℕ) (ts rest : List Lexeme) → (scan d ts ≡ Ok rest) ↔ IsPhrase x d ts rest
