-- The token that follows a phrase, and what it decides.
use Rattle.std.specs.Prelude.{◌≡◌, ◌↔◌, ℕ, List, Bool, false, ◌||◌, Result, Ok}
use Rattle.text_parser.specs.declared.fault.TextFault.{TextFault}
use Rattle.text_parser.specs.declared.terminal.Terminal.{Terminal}
use Rattle.text_parser.specs.declared.terminal.Terminal.TheVariants.{Star, Plus, Dot, And, Or}
use Rattle.text_parser.specs.Lexemes.{Lexeme, heads, is_sum, is_terminal}
use Rattle.text_parser.specs.Phrases.{Symbol, term, prod, star, unit, cond, conj, lit, expr, mul, fac, Phrase, yield_before, MeetsLookahead, IsWithinLimits}

-- whether terminal `s` can continue a phrase at the end of a phrase of `x`
abbrev pub goes_on : Symbol → Terminal → Bool
goes_on term s = is_terminal Plus s || (is_terminal Dot s || is_terminal Star s)
goes_on prod s = is_terminal Dot s || is_terminal Star s
goes_on star s = is_terminal Star s
goes_on unit s = false
goes_on cond s = is_terminal Or s || (is_terminal And s || (is_sum s || is_terminal Star s))
goes_on conj s = is_terminal And s || (is_sum s || is_terminal Star s)
goes_on lit s = is_sum s || is_terminal Star s
goes_on expr s = is_sum s || is_terminal Star s
goes_on mul s = is_terminal Star s
goes_on fac s = false

-- the token after a phrase of `x` cannot continue it
abbrev pub Ends : Symbol → List Lexeme → Type 0
Ends x ts = heads (goes_on x) ts ≡ false

-- the tokens are a phrase of `x`, of any length, followed by `rest`
pub record BeginsWith (x : Symbol) (d : ℕ) (ts rest : List Lexeme) : Type 0 where
  pub phrase : Phrase x
  pub spelled : ts ≡ yield_before phrase rest
  pub obeys : MeetsLookahead phrase rest
  pub fits : IsWithinLimits d phrase

-- the check accepts exactly the phrases of the grammar if the token that follows cannot continue them
abbrev pub TakesGrammar : Symbol → (ℕ → List Lexeme → Result (List Lexeme) TextFault) → Type 0
TakesGrammar x scan = (d : ℕ) (ts rest : List Lexeme) → Ends x rest → (scan d ts ≡ Ok rest) ↔ BeginsWith x d ts rest
