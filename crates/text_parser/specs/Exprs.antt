-- The expression parser.
use Rattle.std.specs.Prelude.{ℕ, zero, suc, ◌+◌, ◌*◌, List, [], ◌∷◌, length, drop, if◌then◌else◌, Ok, Err}
use Rattle.text_parser.specs.declared.fault.TextFault.TheVariants.{NoMemory, Syntax, NumberTooWide}
use Rattle.text_parser.specs.declared.terminal.Terminal.TheVariants.{RoundOpen, RoundClose, Star, Minus, Zero, One, Number, WideNumber, Name}
use Rattle.text_parser.specs.declared.reading.Context.{Context}
use Rattle.text_parser.specs.declared.reading.Operator.{Operator}
use Rattle.text_parser.specs.declared.reading.Operator.TheVariants.{Add, Subtract, Multiply}
use Rattle.text_parser.specs.Lexemes.{Lexeme, lexeme, heads, is_sum, is_terminal}
use Rattle.text_parser.specs.Parsed.{Parsed, ◌>>=◌, at_end, before, change, then_expects}
use Rattle.text_parser.specs.Actions.{ExprActions, enter}

-- the operator at the start of the tokens after a product
abbrev pub operator_at : List Lexeme → Operator
operator_at [] = Add
operator_at (lexeme Minus at text ∷ ts) = Subtract
operator_at (lexeme _ at text ∷ ts) = Add

-- what to parse: a whole list, or the rest of a list after the value so far
pub data ExprAim (E : Type 0) : Type 0 where
  sums : ExprAim E
  sums_after : (e : E) → ExprAim E
  products : ExprAim E
  products_after : (e : E) → ExprAim E
  factor : ExprAim E

-- a parser, which reads an aim at the start of the tokens in a context
abbrev pub ExprParser : Type 0 → Type 0
ExprParser E = ExprAim E → Context → List Lexeme → Parsed E

-- parses an expression and the parenthesis that closes it
abbrev pub parenthesis : {E : Type 0} → ExprActions E → ExprParser E → Context → ℕ → List Lexeme → Parsed E
parenthesis g f c at ts = enter c at >>= λ d. change g.enclosed (then_expects (is_terminal RoundClose) (f sums d ts))

-- parses a number, a name, or an expression in parentheses
abbrev pub factor_by : {E : Type 0} → ExprActions E → ExprParser E → Context → List Lexeme → Parsed E
factor_by g f c [] = Err (Syntax at_end)
factor_by g f c (lexeme Zero at text ∷ ts) = before ts (g.number c at 0)
factor_by g f c (lexeme One at text ∷ ts) = before ts (g.number c at 1)
factor_by g f c (lexeme (Number n) at text ∷ ts) = before ts (g.number c at n)
factor_by g f c (lexeme WideNumber at text ∷ ts) = Err (NumberTooWide at)
factor_by g f c (lexeme Name at text ∷ ts) = before ts (g.variable c at text)
factor_by g f c (lexeme RoundOpen at text ∷ ts) = parenthesis g f c at ts
factor_by g f c (lexeme _ at text ∷ ts) = Err (Syntax at)

-- one step: parses each aim by parsers on fewer tokens, or on equally many with a lower rank
abbrev pub expr_by : {E : Type 0} → ExprActions E → ExprParser E → ExprParser E
expr_by g f sums c ts = f products c ts >>= λ x. f (sums_after x.0) c x.1
expr_by g f (sums_after e) c ts = if heads is_sum ts then (f products c (drop 1 ts) >>= λ x. f (sums_after (g.join (operator_at ts) e x.0)) c x.1) else Ok (e, ts)
expr_by g f products c ts = f factor c ts >>= λ x. f (products_after x.0) c x.1
expr_by g f (products_after e) c ts = if heads (is_terminal Star) ts then (f factor c (drop 1 ts) >>= λ x. f (products_after (g.join Multiply e x.0)) c x.1) else Ok (e, ts)
expr_by g f factor c ts = factor_by g f c ts

-- orders the aims that may follow each other before a token is read
abbrev pub rank : {E : Type 0} → ExprAim E → ℕ
rank factor = 0
rank (products_after e) = 1
rank products = 2
rank (sums_after e) = 3
rank sums = 4

-- a number of steps that suffices
abbrev pub steps : {E : Type 0} → ExprAim E → List Lexeme → ℕ
steps x ts = 8 * length ts + rank x

-- parses in at most `n` steps
unfoldable pub expr_within : {E : Type 0} → ExprActions E → ℕ → ExprParser E
expr_within g zero x c ts = Err NoMemory
expr_within g (suc n) x c ts = expr_by g (expr_within g n) x c ts

-- parses the expression at the start of the tokens, or gives the first fault
unfoldable pub parse_expr : {E : Type 0} → ExprActions E → ExprParser E
parse_expr g x c ts = expr_within g (suc (steps x ts)) x c ts
