-- Parsers consume tokens, and parsers that agree on fewer tokens agree.
use Rattle.std.proofs.Common.{◌≡◌, ℕ, ◌<◌, ◌≤◌, List, [], ◌∷◌, length, Bool, true, false, cond, Result, Ok, Err, refl, ap, ◌∙◌, arith, drop}
use Rattle.text_parser.specs.declared.fault.TextFault.{TextFault}
use Rattle.text_parser.specs.declared.fault.TextFault.TheVariants.{Syntax}
use Rattle.text_parser.specs.declared.terminal.Terminal.{Terminal}
use Rattle.text_parser.specs.Lexemes.{Lexeme, lexeme, heads}
use Rattle.text_parser.specs.Parsed.{Parsed, ◌>>=◌, before, change, expects, then_expects}

-- fewer than `n` tokens remain
abbrev pub Within : {V : Type 0} → ℕ → Parsed V → Type 0
Within n (Ok x) = length x.1 < n
Within n (Err e) = Unit {0}

pub bind_within : {V W : Type 0} (n m : ℕ) (s : Parsed V) (k : V × List Lexeme → Parsed W) → Within n s → ((x : V × List Lexeme) → length x.1 < n → Within m (k x)) → Within m (s >>= k)
bind_within n m (Ok x) k h g = g x h
bind_within n m (Err e) k h g = tt

pub if_within : {V : Type 0} (n : ℕ) (b : Bool) (x y : Parsed V) → (b ≡ true → Within n x) → (b ≡ false → Within n y) → Within n (cond b x y)
if_within n true x y p q = p refl
if_within n false x y p q = q refl

pub weaken : {V : Type 0} (n m : ℕ) (s : Parsed V) → n ≤ m → Within n s → Within m s
weaken n m (Ok x) le h = omega arith
weaken n m (Err e) le h = tt

pub before_within : {V : Type 0} (n : ℕ) (ts : List Lexeme) (v : Result V TextFault) → length ts < n → Within n (before ts v)
before_within n ts (Ok v) lt = lt
before_within n ts (Err e) lt = tt

pub enter_within : {C V : Type 0} (n : ℕ) (d : Result C TextFault) (k : C → Parsed V) → ((c : C) → Within n (k c)) → Within n (d >>= k)
enter_within n (Ok c) k h = h c
enter_within n (Err e) k h = tt

pub change_within : {V W : Type 0} (n : ℕ) (f : V → W) (s : Parsed V) → Within n s → Within n (change f s)
change_within n f (Ok x) h = h
change_within n f (Err e) h = tt

expected_within : {V : Type 0} (p : Terminal → Bool) (n : ℕ) (v : V) (ts : List Lexeme) → length ts < n → Within n (expects p ts >>= λ r. Ok (v, r))
expected_within p n v [] lt = tt
expected_within p n v (lexeme s at text ∷ ts) lt = elim (p s) as (λ b. Within n (cond b (Ok ts) (Err (Syntax at)) >>= λ r. Ok (v, r))) [ true ↦ omega arith | false ↦ tt ]

pub then_expects_within : {V : Type 0} (p : Terminal → Bool) (n : ℕ) (s : Parsed V) → Within n s → Within n (then_expects p s)
then_expects_within p n (Ok x) h = expected_within p n x.0 x.1 h
then_expects_within p n (Err e) h = tt

pub headed : (p : Terminal → Bool) (ts : List Lexeme) → heads p ts ≡ true → length (drop 1 ts) < length ts
headed p [] e = absurd cc
headed p (m ∷ ts) e = omega arith

pub bind_same : {V W : Type 0} (n : ℕ) (s t : Parsed V) (k l : V × List Lexeme → Parsed W) → s ≡ t → Within n s → ((x : V × List Lexeme) → length x.1 < n → k x ≡ l x) → (s >>= k) ≡ (t >>= l)
bind_same n (Ok x) t k l e h g = g x h ∙ ap (λ (u : Parsed _). u >>= l) e
bind_same n (Err x) t k l e h g = ap (λ (u : Parsed _). u >>= l) e

pub if_same : {V : Type 0} (b : Bool) (x y v : Parsed V) → (b ≡ true → x ≡ v) → cond b x y ≡ cond b v y
if_same true x y v p = p refl
if_same false x y v p = refl

pub else_same : {V : Type 0} (b : Bool) (x y v : Parsed V) → y ≡ v → cond b x y ≡ cond b x v
else_same true x y v p = refl
else_same false x y v p = p

pub enter_same : {C V : Type 0} (d : Result C TextFault) (k l : C → Parsed V) → ((c : C) → k c ≡ l c) → (d >>= k) ≡ (d >>= l)
enter_same (Ok c) k l h = h c
enter_same (Err e) k l h = refl
