-- The token at an index.
use Rattle.std.proofs.Common.{◌≡◌, ℕ, zero, suc, ◌+◌, ◌<◌, List, [], ◌∷◌, length, drop, get_or, Some, refl, ap, sym, subst, arith}
use Rattle.text_parser.specs.declared.token.Token.{Token}
use Rattle.text_parser.specs.declared.terminal.Terminal.{Terminal}
use Rattle.text_parser.specs.TokenParts.{parts_of_tokens}
use Rattle.text_parser.specs.Terminals.{terminal_of, is_symbol, heads_symbol}
use Rattle.text_parser.specs.Lexemes.{Sees}

seen_at : (ts : List Token) (i : ℕ) (t : Token) → t ≡ get_or ts i t → i < length ts → Sees (Some (terminal_of t.kind t.text.now, t.at)) ts i
seen_at [] i t e lt = absurd (omega arith)
seen_at (x ∷ xs) zero t e lt =
    subst (λ (u : Token). Sees (Some (terminal_of u.kind u.text.now, u.at)) (x ∷ xs) 0) (sym e) (refl, omega arith)
seen_at (x ∷ xs) (suc i) t e lt =
    let h = seen_at xs i t e (omega arith) in
    let next : suc i + 1 ≡ suc (i + 1) = omega arith in
    (rw next (h.0), omega (arith, h.1))

pub seen : (ts : List Token) (i : ℕ) (t : Token) (s : Terminal) → s ≡ terminal_of t.kind t.text.now → t ≡ get_or ts i t → i < length ts → Sees (Some (s, t.at)) ts i
seen ts i t s is e lt = subst (λ (v : Terminal). Sees (Some (v, t.at)) ts i) (sym is) (seen_at ts i t e lt)

pub symbol_seen : (symbol : List ℕ) (ts : List Token) (i : ℕ) (t : Token) → t ≡ get_or ts i t → i < length ts → is_symbol symbol t.kind t.text.now ≡ heads_symbol symbol (drop i (parts_of_tokens ts))
symbol_seen symbol [] i t e lt = absurd (omega arith)
symbol_seen symbol (x ∷ xs) zero t e lt = ap (λ (u : Token). is_symbol symbol u.kind u.text.now) e
symbol_seen symbol (x ∷ xs) (suc i) t e lt = symbol_seen symbol xs i t e (omega arith)
