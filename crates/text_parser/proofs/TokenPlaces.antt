-- Indices of tokens, and a token that must follow.
use Rattle.std.proofs.Common.{◌≡◌, ℕ, ◌+◌, List, [], ◌∷◌, Bool, true, false, Ok, Err, drop, refl}
use Rattle.std.proofs.lemmas.List.{drop-drop}
use Rattle.text_parser.specs.declared.fault.TextFault.TheVariants.{Syntax}
use Rattle.text_parser.specs.declared.terminal.Terminal.{Terminal}
use Rattle.text_parser.specs.Lexemes.{Lexeme, lexeme, heads}
use Rattle.text_parser.specs.Parsed.{place_of, expects}

pub next_drop : {T : Type 0} (n : ℕ) (xs : List T) → drop 1 (drop n xs) ≡ drop (n + 1) xs
next_drop n xs = drop-drop 1 n xs

pub heads_expects : (p : Terminal → Bool) (ts : List Lexeme) → heads p ts ≡ true → expects p ts ≡ Ok (drop 1 ts)
heads_expects p [] e = absurd cc
heads_expects p (lexeme s at text ∷ ts) e = rw e refl

pub other_expects : (p : Terminal → Bool) (ts : List Lexeme) → heads p ts ≡ false → expects p ts ≡ Err (Syntax (place_of ts))
other_expects p [] e = refl
other_expects p (lexeme s at text ∷ ts) e = rw e refl
