-- Kind and text decide whether a token is a parenthesis; the search for the matching one moves by one token.
use Rattle.std.proofs.Common.{◌≡◌, ℕ, zero, suc, ◌+◌, ◌-◌, List, [], ◌∷◌, map, drop, Bool, true, false, cond, Option, Some, None, refl, add-one, sub-one}
use Rattle.std.proofs.lemmas.Slice.Eq.{bytes_eq-Decides}
use Rattle.std.specs.Prelude.{codes, bytes_eq}
use Rattle.text_parser.specs.declared.token.Kind.{Kind}
use Rattle.text_parser.specs.declared.token.Kind.TheVariants as kind
use Rattle.text_parser.specs.declared.terminal.Terminal.{Terminal}
use Rattle.text_parser.specs.declared.terminal.Terminal.TheVariants.{RoundOpen, RoundClose}
use Rattle.text_parser.specs.Terminals.{terminal_of, is_symbol, heads_symbol, numbered}
use Rattle.text_parser.specs.TokenParts.{TokenParts, token_parts}
use Rattle.text_parser.specs.Lexemes.{Lexeme, lexeme, lexeme_of, heads, is_terminal}
use Rattle.text_parser.specs.Conds.{index_after_matching}

opens_choice : (b : Bool) (x y : Terminal) → is_terminal RoundOpen (cond b x y) ≡ cond b (is_terminal RoundOpen x) (is_terminal RoundOpen y)
opens_choice true x y = refl
opens_choice false x y = refl

closes_choice : (b : Bool) (x y : Terminal) → is_terminal RoundClose (cond b x y) ≡ cond b (is_terminal RoundClose x) (is_terminal RoundClose y)
closes_choice true x y = refl
closes_choice false x y = refl

same_choice : (b v : Bool) → cond b v v ≡ v
same_choice true v = refl
same_choice false v = refl

no_choice : (b : Bool) → cond b true false ≡ b
no_choice true = refl
no_choice false = refl

number_opens : (n : Option ℕ) → is_terminal RoundOpen (numbered n) ≡ false
number_opens None = refl
number_opens (Some n) = refl

number_closes : (n : Option ℕ) → is_terminal RoundClose (numbered n) ≡ false
number_closes None = refl
number_closes (Some n) = refl

-- no text is both `(` and `)`
one_of_both : (b : Bool) (text : List ℕ) → bytes_eq text (codes "(") ≡ b → cond b false (bytes_eq text (codes ")")) ≡ bytes_eq text (codes ")")
one_of_both true text e = let same : text ≡ codes "(" = (bytes_eq-Decides text (codes "(")).0 e in rw same refl
one_of_both false text e = refl

opened : (k : Kind) (text : List ℕ) → is_terminal RoundOpen (terminal_of k text) ≡ is_symbol (codes "(") k text
opened kind.Name text = simp (opens_choice, same_choice)
opened kind.Number text = simp (opens_choice, number_opens, same_choice)
opened kind.Symbol text = simp (opens_choice, no_choice, same_choice)

closed : (k : Kind) (text : List ℕ) → is_terminal RoundClose (terminal_of k text) ≡ is_symbol (codes ")") k text
closed kind.Name text = simp (closes_choice, same_choice)
closed kind.Number text = simp (closes_choice, number_closes, same_choice)
closed kind.Symbol text = simp (closes_choice, no_choice, same_choice) (one_of_both (bytes_eq text (codes "(")) text refl)

pub opens_is_symbol : (ms : List TokenParts) (i : ℕ) → heads (is_terminal RoundOpen) (drop i (map lexeme_of ms)) ≡ heads_symbol (codes "(") (drop i ms)
opens_is_symbol [] zero = refl
opens_is_symbol [] (suc i) = refl
opens_is_symbol (token_parts k at text ∷ ms) zero = opened k text
opens_is_symbol (m ∷ ms) (suc i) = opens_is_symbol ms i

pub closes_is_symbol : (ms : List TokenParts) (i : ℕ) → heads (is_terminal RoundClose) (drop i (map lexeme_of ms)) ≡ heads_symbol (codes ")") (drop i ms)
closes_is_symbol [] zero = refl
closes_is_symbol [] (suc i) = refl
closes_is_symbol (token_parts k at text ∷ ms) zero = closed k text
closes_is_symbol (m ∷ ms) (suc i) = closes_is_symbol ms i

-- one step of the search, by the first token

pub inner_opened : (n : ℕ) (ts : List Lexeme) → heads (is_terminal RoundOpen) ts ≡ true → index_after_matching n ts ≡ index_after_matching (n + 1) (drop 1 ts)
inner_opened n [] e = absurd cc
inner_opened zero (lexeme s at text ∷ ts) e = rw e refl
inner_opened (suc n) (lexeme s at text ∷ ts) e = rw (e, add-one) refl

pub match_closed : (ts : List Lexeme) → heads (is_terminal RoundOpen) ts ≡ false → heads (is_terminal RoundClose) ts ≡ true → index_after_matching 0 ts ≡ drop 1 ts
match_closed [] e f = absurd cc
match_closed (lexeme s at text ∷ ts) e f = rw (e, f) refl

pub inner_closed : (n : ℕ) (ts : List Lexeme) → ¬ (n ≡ 0) → heads (is_terminal RoundOpen) ts ≡ false → heads (is_terminal RoundClose) ts ≡ true → index_after_matching n ts ≡ index_after_matching (n - 1) (drop 1 ts)
inner_closed zero ts some e f = absurd (some refl)
inner_closed (suc n) [] some e f = absurd cc
inner_closed (suc n) (lexeme s at text ∷ ts) some e f = rw (e, f, sub-one) refl

pub other_passed : (n : ℕ) (ts : List Lexeme) → heads (is_terminal RoundOpen) ts ≡ false → heads (is_terminal RoundClose) ts ≡ false → index_after_matching n ts ≡ index_after_matching n (drop 1 ts)
other_passed zero [] e f = refl
other_passed (suc n) [] e f = refl
other_passed zero (lexeme s at text ∷ ts) e f = rw (e, f) refl
other_passed (suc n) (lexeme s at text ∷ ts) e f = rw (e, f) refl
