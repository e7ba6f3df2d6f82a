-- The term parser.
use Rattle.std.specs.Prelude.{ℕ, zero, suc, ◌+◌, ◌*◌, List, [], ◌∷◌, length, drop, if◌then◌else◌, Ok, Err}
use Rattle.text_parser.specs.declared.fault.TextFault.TheVariants.{NoMemory, Syntax}
use Rattle.text_parser.specs.declared.terminal.Terminal.TheVariants.{RoundOpen, RoundClose, SquareOpen, SquareClose, Bang, Star, Plus, Dot, Zero, One, Name}
use Rattle.text_parser.specs.declared.reading.Context.{Context}
use Rattle.text_parser.specs.Lexemes.{Lexeme, lexeme, heads, is_terminal}
use Rattle.text_parser.specs.Parsed.{Parsed, ◌>>=◌, at_end, before, change, then_expects, place_of}
use Rattle.text_parser.specs.Actions.{Actions, enter, enter_not}
use Rattle.text_parser.specs.Conds.{parse_cond, disjunction}

-- what to parse: a whole list, the rest of a list after the list so far, or a unit
pub data TermAim (M : Type 0) : Type 0 where
  choice : TermAim M
  choice_after : (m : M) → TermAim M
  sequence : TermAim M
  sequence_after : (m : M) → TermAim M
  unit : TermAim M

-- a parser, which reads an aim at the start of the tokens in a context
abbrev pub TermParser : Type 0 → Type 0 → Type 0
TermParser T M = TermAim M → Context → List Lexeme → Parsed T

-- parses a term and the parenthesis that closes it
abbrev pub parenthesis : {E B L T M : Type 0} → Actions E B L T M → TermParser T M → Context → ℕ → List Lexeme → Parsed T
parenthesis g f c at ts = enter c at >>= λ d. change g.enclosed (then_expects (is_terminal RoundClose) (f choice d ts))

-- parses a condition and the bracket that closes it
abbrev pub bracket : {E B L T M : Type 0} → Actions E B L T M → Context → ℕ → List Lexeme → Parsed T
bracket g c at ts = enter c at >>= λ d. change g.tested (then_expects (is_terminal SquareClose) (parse_cond g.conds disjunction d ts))

-- parses the operand of a `!`
abbrev pub negation : {E B L T M : Type 0} → Actions E B L T M → TermParser T M → Context → ℕ → List Lexeme → Parsed T
negation g f c at ts = enter_not c at >>= λ d. change g.negated (f unit d ts)

-- parses a unit, by its first token
abbrev pub unit_by : {E B L T M : Type 0} → Actions E B L T M → TermParser T M → Context → List Lexeme → Parsed T
unit_by g f c [] = Err (Syntax at_end)
unit_by g f c (lexeme Zero at text ∷ ts) = Ok (g.zero, ts)
unit_by g f c (lexeme One at text ∷ ts) = Ok (g.one, ts)
unit_by g f c (lexeme Name at text ∷ ts) = before ts (g.named c at text)
unit_by g f c (lexeme Bang at text ∷ ts) = negation g f c at ts
unit_by g f c (lexeme SquareOpen at text ∷ ts) = bracket g c at ts
unit_by g f c (lexeme RoundOpen at text ∷ ts) = parenthesis g f c at ts
unit_by g f c (lexeme _ at text ∷ ts) = Err (Syntax at)

-- parses the star after a unit, if there is one
abbrev pub star_or_not : {E B L T M : Type 0} → Actions E B L T M → Context → T → List Lexeme → Parsed T
star_or_not g c t ts = if heads (is_terminal Star) ts then before (drop 1 ts) (g.starred c (place_of ts) t) else Ok (t, ts)

-- one step: parses each aim by parsers on fewer tokens, or on equally many with a lower rank
abbrev pub term_by : {E B L T M : Type 0} → Actions E B L T M → TermParser T M → TermParser T M
term_by g f choice c ts = f sequence c ts >>= λ x. f (choice_after (g.one_of x.0)) c x.1
term_by g f (choice_after m) c ts = if heads (is_terminal Plus) ts then (f sequence c (drop 1 ts) >>= λ x. f (choice_after (g.more m x.0)) c x.1) else Ok (g.sum m, ts)
term_by g f sequence c ts = f unit c ts >>= λ x. star_or_not g c x.0 x.1 >>= λ y. f (sequence_after (g.one_of y.0)) c y.1
term_by g f (sequence_after m) c ts = if heads (is_terminal Dot) ts then (f unit c (drop 1 ts) >>= λ x. star_or_not g c x.0 x.1 >>= λ y. f (sequence_after (g.more m y.0)) c y.1) else Ok (g.product m, ts)
term_by g f unit c ts = unit_by g f c ts

-- orders the aims that may follow each other before a token is read
abbrev pub rank : {M : Type 0} → TermAim M → ℕ
rank unit = 0
rank (sequence_after m) = 1
rank sequence = 2
rank (choice_after m) = 3
rank choice = 4

-- a number of steps that suffices
abbrev pub steps : {M : Type 0} → TermAim M → List Lexeme → ℕ
steps x ts = 8 * length ts + rank x

-- parses in at most `n` steps
unfoldable pub term_within : {E B L T M : Type 0} → Actions E B L T M → ℕ → TermParser T M
term_within g zero x c ts = Err NoMemory
term_within g (suc n) x c ts = term_by g (term_within g n) x c ts

-- parses the term at the start of the tokens, or gives the first fault
unfoldable pub parse_term : {E B L T M : Type 0} → Actions E B L T M → TermParser T M
parse_term g x c ts = term_within g (suc (steps x ts)) x c ts
