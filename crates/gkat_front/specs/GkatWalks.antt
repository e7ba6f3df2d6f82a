-- Reading expressions from the start of the tokens.
use Rattle.std.specs.Prelude.{ℕ, zero, suc, List, [], ◌∷◌, length, drop, if◌then◌else◌, Ok, Err}
use Rattle.text_parser.specs.declared.fault.TextFault.TheVariants.{NoMemory, Syntax}
use Rattle.text_parser.specs.declared.terminal.Terminal.TheVariants.{RoundOpen, RoundClose, SquareOpen, SquareClose, Plus, Dot, Zero, One, Name, Separator}
use Rattle.text_parser.specs.declared.terminal.Separator.TheVariants.{Caret}
use Rattle.text_parser.specs.Lexemes.{Lexeme, lexeme, heads, is_terminal}
use Rattle.text_parser.specs.Parsed.{Parsed, ◌>>=◌, at_end, place_of, before, change, expects, then_expects}
use Rattle.while_lang.specs.Blocks.{enter}
use Rattle.gkat_front.specs.GkatActions.{GkatActions}

-- what to read: an expression, or the factors that continue a product
pub data GkatAim (P : Type 0) : Type 0 where
  whole : GkatAim P
  factors_after : (p : P) → GkatAim P

-- reads what the aim says from the start of the tokens, with this number of open constructs around it
abbrev pub GkatParser : Type 0 → Type 0 → Type 0
GkatParser P V = GkatAim P → ℕ → List Lexeme → Parsed V

-- "[" cond "]"
abbrev pub guard_by : {C P V : Type 0} → GkatActions C P V → ℕ → List Lexeme → Parsed C
guard_by g d ts = expects (is_terminal SquareOpen) ts >>= λ a. enter d (place_of ts) >>= λ e. then_expects (is_terminal SquareClose) (g.cond e a)

-- the same, as an expression
abbrev pub tested_by : {C P V : Type 0} → GkatActions C P V → ℕ → List Lexeme → Parsed V
tested_by g d ts = change g.test (guard_by g d ts)

-- "(" g ")"
abbrev pub round_by : {P V : Type 0} → GkatParser P V → ℕ → List Lexeme → Parsed V
round_by f d ts = expects (is_terminal RoundOpen) ts >>= λ a. enter d (place_of ts) >>= λ e. then_expects (is_terminal RoundClose) (f whole e a)

-- "0" | "1" | NAME | "[" cond "]" | "(" g ")"
abbrev pub unit_by : {C P V : Type 0} → GkatActions C P V → GkatParser P V → ℕ → List Lexeme → Parsed V
unit_by g f d [] = Err (Syntax at_end)
unit_by g f d (lexeme Zero at text ∷ ts) = Ok (g.never, ts)
unit_by g f d (lexeme One at text ∷ ts) = Ok (g.always, ts)
unit_by g f d (lexeme Name at text ∷ ts) = before ts (g.name at text)
unit_by g f d (lexeme SquareOpen at text ∷ ts) = tested_by g d (lexeme SquareOpen at text ∷ ts)
unit_by g f d (lexeme RoundOpen at text ∷ ts) = round_by f d (lexeme RoundOpen at text ∷ ts)
unit_by g f d (lexeme _ at text ∷ ts) = Err (Syntax at)

-- [ "^" "[" cond "]" ], after a unit
abbrev pub loop_by : {C P V : Type 0} → GkatActions C P V → ℕ → V → List Lexeme → Parsed V
loop_by g d v ts = if heads (is_terminal (Separator Caret)) ts then change (λ c. g.loop c v) (guard_by g d (drop 1 ts)) else Ok (v, ts)

-- u [ "^" "[" cond "]" ]
abbrev pub factor_by : {C P V : Type 0} → GkatActions C P V → GkatParser P V → ℕ → List Lexeme → Parsed V
factor_by g f d ts = unit_by g f d ts >>= λ x. loop_by g d x.0 x.1

-- l { "." l }
abbrev pub product_by : {C P V : Type 0} → GkatActions C P V → GkatParser P V → ℕ → List Lexeme → Parsed V
product_by g f d ts = factor_by g f d ts >>= λ x. f (factors_after (g.first x.0)) d x.1

-- [ "+" "[" cond "]" s ], after a product
abbrev pub choice_by : {C P V : Type 0} → GkatActions C P V → GkatParser P V → ℕ → V → List Lexeme → Parsed V
choice_by g f d v ts =
    if heads (is_terminal Plus) ts then (guard_by g d (drop 1 ts) >>= λ c. change (λ w. g.choice c.0 v w) (product_by g f d c.1)) else Ok (v, ts)

-- one step: reads an aim by reading aims on fewer tokens
abbrev pub gkat_by : {C P V : Type 0} → GkatActions C P V → GkatParser P V → GkatParser P V
gkat_by g f whole d ts = product_by g f d ts >>= λ x. choice_by g f d x.0 x.1
gkat_by g f (factors_after p) d ts =
    if heads (is_terminal Dot) ts then (factor_by g f d (drop 1 ts) >>= λ x. f (factors_after (g.more p x.0)) d x.1) else Ok (g.product p, ts)

-- reading with at most this number of steps
unfoldable pub gkat_within : {C P V : Type 0} → GkatActions C P V → ℕ → GkatParser P V
gkat_within g zero x d ts = Err NoMemory
gkat_within g (suc n) x d ts = gkat_by g (gkat_within g n) x d ts

-- reads the expression at the start of the tokens, or gives its first fault; each step has fewer tokens
unfoldable pub parse_gkat : {C P V : Type 0} → GkatActions C P V → GkatParser P V
parse_gkat g x d ts = gkat_within g (suc (length ts)) x d ts
