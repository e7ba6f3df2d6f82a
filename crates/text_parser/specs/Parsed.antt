-- Results of parsers: a value and the remaining tokens, or the first fault.
use Rattle.std.specs.Prelude.{◌≡◌, ◌<◌, ◌≤◌, ℕ, List, [], ◌∷◌, drop, Bool, if◌then◌else◌, Result, Ok, Err}
use Rattle.text_parser.specs.declared.fault.TextFault.{TextFault}
use Rattle.text_parser.specs.declared.fault.TextFault.TheVariants.{NoMemory, Syntax}
use Rattle.text_parser.specs.declared.terminal.Terminal.{Terminal}
use Rattle.text_parser.specs.Lexemes.{Lexeme, lexeme}

-- a value and the remaining tokens, or a fault
abbrev pub Parsed : Type 0 → Type 0
Parsed V = Result (V × List Lexeme) TextFault

-- applies `f` to a value; a fault remains
infixl 10 ◌>>=◌
abbrev pub ◌>>=◌ : {A B : Type 0} → Result A TextFault → (A → Result B TextFault) → Result B TextFault
(Ok x) >>= f = f x
(Err e) >>= f = Err e

-- the place of what is missing after the last token, which is beyond all places
abbrev pub at_end : ℕ
at_end = 18446744073709551615

-- the place of the first token, or `at_end`
abbrev pub place_of : List Lexeme → ℕ
place_of [] = at_end
place_of (lexeme s at text ∷ ts) = at

-- the text of the first token, or empty
abbrev pub text_of : List Lexeme → List ℕ
text_of [] = []
text_of (lexeme s at text ∷ ts) = text

-- a value with the remaining tokens `ts`
abbrev pub before : {V : Type 0} → List Lexeme → Result V TextFault → Parsed V
before ts m = m >>= λ v. Ok (v, ts)

-- the result with its value changed by `f`
abbrev pub change : {V W : Type 0} → (V → W) → Parsed V → Parsed W
change f m = m >>= λ x. Ok (f x.0, x.1)

-- requires a first token whose terminal passes `p`; gives the tokens after it
abbrev pub expects : (Terminal → Bool) → List Lexeme → Result (List Lexeme) TextFault
expects p [] = Err (Syntax at_end)
expects p (lexeme s at text ∷ ts) = if p s then Ok ts else Err (Syntax at)

-- a value, followed by one token whose terminal passes `p`
abbrev pub then_expects : {V : Type 0} → (Terminal → Bool) → Parsed V → Parsed V
then_expects p m = m >>= λ x. expects p x.1 >>= λ r. Ok (x.0, r)

-- the program's result agrees with `m`: the same value under `means`, or the same fault; `memory` holds on `NoMemory`
abbrev pub Makes : {V W : Type 0} → Type 0 → (V → W) → Result V TextFault → Result W TextFault → Type 0
Makes memory means (Ok v) m = m ≡ Ok (means v)
Makes memory means (Err NoMemory) m = memory
Makes memory means (Err e) m = m ≡ Err e

-- likewise for a parser, which returns a value and the index after it
abbrev pub Reads : {V W : Type 0} → Type 0 → (V → W) → List Lexeme → Result (V × ℕ) TextFault → Parsed W → Type 0
Reads memory means ts (Ok x) m = m ≡ Ok (means x.0, drop x.1 ts)
Reads memory means ts (Err NoMemory) m = memory
Reads memory means ts (Err e) m = m ≡ Err e

-- likewise for one required token, with the index after it
abbrev pub Expects : List Lexeme → Result ℕ TextFault → Result (List Lexeme) TextFault → Type 0
Expects ts (Ok i) m = m ≡ Ok (drop i ts)
Expects ts (Err e) m = m ≡ Err e

-- the parser consumed at least one token and stopped within the tokens
abbrev pub Goes : {V : Type 0} → ℕ → ℕ → Result (V × ℕ) TextFault → Type 0
Goes from count (Ok x) = (from < x.1) × (x.1 ≤ count)
Goes from count (Err e) = Unit {0}
