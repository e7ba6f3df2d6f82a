-- The longest run at the start of a text.
use Rattle.std.proofs.Common.{◌≡◌, ◌≤◌, ◌<◌, ℕ, List, [], ◌∷◌, ◌++◌, length, Bool, true, false, ◌&&◌, refl, sym, ap, ◌∙◌, arith, subst, length-append, append_assoc, cond, if◌then◌else◌}
use Rattle.std.proofs.lemmas.Bool.{and_parts}
use Rattle.std.proofs.lemmas.List.Sums.{take_while-cons}
use Rattle.std.proofs.lemmas.Str.{encode_same, length-encode, len_utf8_bounds}
use Rattle.std.specs.Prelude.{encode_utf8, encode_utf8_all, take_while}
use Rattle.std.specs.List.{list_all}
use Rattle.std.specs.Char.{is_ascii_digit}
use Rattle.text_parser.specs.declared.token.Kind.TheVariants.{Symbol}
use Rattle.text_parser.specs.Kinds.{is_symbol, IsToken}
use Rattle.text_parser.specs.Working.Fronts.{symbol_len}
use Rattle.text_parser.proofs.Beginnings.{is_marks, symbol_marks}

-- A run of passing characters is no longer than a run that is followed by the end or by a failing character.
pub run_longest : (p : ℕ → Bool) (cs ds more rest : List ℕ) → encode_utf8_all cs ++ more ≡ encode_utf8_all ds ++ rest → list_all p cs ≡ true
    → (0 < length rest → (e : ℕ) × (past : List ℕ) × (rest ≡ encode_utf8 e ++ past) × (p e ≡ false)) → length (encode_utf8_all cs) ≤ length (encode_utf8_all ds)
run_longest p [] ds more rest same pass ends = omega arith
run_longest p (c ∷ cs) [] more rest same pass ends =
    let whole : rest ≡ encode_utf8 c ++ (encode_utf8_all cs ++ more) = sym same ∙ append_assoc (encode_utf8 c) (encode_utf8_all cs) more in
    let some : 0 < length rest = omega (arith, ap length whole, length-append (encode_utf8 c) (encode_utf8_all cs ++ more), length-encode c, (len_utf8_bounds c).0) in
    let end = ends some in
    let first = encode_same c end.0 _ _ (sym whole ∙ end.2) in
    let passes = (and_parts (p c) (list_all p cs) pass).0 in
    let fails : p c ≡ false = subst (λ v. p v ≡ false) (sym first.0) end.3 in cc
run_longest p (c ∷ cs) (d ∷ ds) more rest same pass ends =
    let parts = encode_same c d _ _ (sym (append_assoc (encode_utf8 c) (encode_utf8_all cs) more) ∙ same ∙ append_assoc (encode_utf8 d) (encode_utf8_all ds) rest) in
    let shorter = run_longest p cs ds more rest parts.1 (and_parts (p c) (list_all p cs) pass).1 ends in
    omega (arith, length-append (encode_utf8 c) (encode_utf8_all cs), length-append (encode_utf8 d) (encode_utf8_all ds), shorter, ap (λ v. length (encode_utf8 v)) parts.0)

-- a run of digits at the start is no longer than the longest one
pub digits_longest : (xs more bytes : List ℕ) → bytes ≡ xs ++ more → list_all is_ascii_digit xs ≡ true → length xs ≤ length (take_while is_ascii_digit bytes)
digits_longest [] more bytes e all = omega arith
digits_longest (x ∷ xs) more [] e all = cc
digits_longest (x ∷ xs) more (b ∷ bs) e all =
    let parts = and_parts (is_ascii_digit x) (list_all is_ascii_digit xs) all in
    let first : x ≡ b = cc in
    let passes : is_ascii_digit b ≡ true = subst (λ v. is_ascii_digit v ≡ true) first parts.0 in
    let tail : bs ≡ xs ++ more = cc in
    let shorter = digits_longest xs more bs tail parts.1 in
    let opened : take_while is_ascii_digit (b ∷ bs) ≡ b ∷ take_while is_ascii_digit bs = subst (λ t. take_while is_ascii_digit (b ∷ bs) ≡ cond t (b ∷ take_while is_ascii_digit bs) []) passes (take_while-cons is_ascii_digit b bs) in
    omega (arith, ap length opened, shorter)

all_step : (p : ℕ → Bool) (b : ℕ) (front : List ℕ) (t : Bool) → p b ≡ t → list_all p front ≡ true → list_all p (cond t (b ∷ front) []) ≡ true
all_step p b front true e all = subst (λ v. (v && list_all p front) ≡ true) (sym e) all
all_step p b front false e all = refl

pub digits_all : (bytes : List ℕ) → list_all is_ascii_digit (take_while is_ascii_digit bytes) ≡ true
digits_all [] = refl
digits_all (b ∷ bs) = subst (λ l. list_all is_ascii_digit l ≡ true) (sym (take_while-cons is_ascii_digit b bs)) (all_step is_ascii_digit b (take_while is_ascii_digit bs) (is_ascii_digit b) refl (digits_all bs))

-- a symbol at the start is no longer than the longest one
one_long : (t s : Bool) → s ≡ true → 1 ≤ (if t then 2 else (if s then 1 else 0))
one_long true s e = omega arith
one_long false true e = omega arith
one_long false false e = cc

two_long : (t : Bool) (n : ℕ) → t ≡ true → 2 ≤ (if t then 2 else n)
two_long true n e = omega arith
two_long false n e = cc

pub symbol_longest : (xs more bytes : List ℕ) → bytes ≡ xs ++ more → IsToken Symbol xs → length xs ≤ symbol_len bytes
symbol_longest [] more bytes e symbol = let no : is_marks [] ≡ true = symbol_marks [] symbol in cc
symbol_longest (a ∷ []) more [] e symbol = cc
symbol_longest (a ∷ []) more (b ∷ []) e symbol = let same : a ≡ b = cc in one_long false (is_symbol (b ∷ [])) (subst (λ v. is_symbol (v ∷ []) ≡ true) same symbol)
symbol_longest (a ∷ []) more (b ∷ c ∷ rest) e symbol = let same : a ≡ b = cc in one_long (is_symbol (b ∷ c ∷ [])) (is_symbol (b ∷ [])) (subst (λ v. is_symbol (v ∷ []) ≡ true) same symbol)
symbol_longest (a ∷ d ∷ []) more [] e symbol = cc
symbol_longest (a ∷ d ∷ []) more (b ∷ []) e symbol = cc
symbol_longest (a ∷ d ∷ []) more (b ∷ c ∷ rest) e symbol =
    let first : a ≡ b = cc in
    let second : d ≡ c = cc in
    two_long (is_symbol (b ∷ c ∷ [])) (if is_symbol (b ∷ []) then 1 else 0) (subst (λ v. is_symbol (v ∷ c ∷ []) ≡ true) first (subst (λ v. is_symbol (a ∷ v ∷ []) ≡ true) second symbol))
symbol_longest (a ∷ d ∷ f ∷ g) more bytes e symbol = let no : is_marks (a ∷ d ∷ f ∷ g) ≡ true = symbol_marks (a ∷ d ∷ f ∷ g) symbol in cc
