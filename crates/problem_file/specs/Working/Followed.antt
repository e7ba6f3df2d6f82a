-- Parts of items that a token must follow.
use Rattle.std.specs.Prelude.{◌≡◌, ℕ, List, drop, Bool, Result, Ok, Err}
use Rattle.text_parser.specs.declared.fault.TextFault.{TextFault}
use Rattle.text_parser.specs.declared.terminal.Terminal.{Terminal}
use Rattle.text_parser.specs.Lexemes.{Lexeme}
use Rattle.text_parser.specs.Parsed.{expects}

-- after a part was read, the result is that part with the index after a token whose terminal passes `p`, or the fault of
-- that token; the fault of a part that was not read remains
abbrev pub Follows : {V : Type 0} → List Lexeme → (Terminal → Bool) → Result (V × ℕ) TextFault → Result (V × ℕ) TextFault → Type 0
Follows ts p (Ok x) (Ok y) = (y.0 ≡ x.0) × (expects p (drop x.1 ts) ≡ Ok (drop y.1 ts))
Follows ts p (Ok x) (Err e) = expects p (drop x.1 ts) ≡ Err e
Follows ts p (Err e) result = result ≡ Err e
