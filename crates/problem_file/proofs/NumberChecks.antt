-- The check of the numbers among tokens, token by token.
use Rattle.std.proofs.Common.{◌≡◌, ℕ, zero, suc, ◌+◌, ◌-◌, ◌<◌, ◌≤◌, List, [], ◌∷◌, length, take, drop, Ok, Err, refl, ap, ◌∙◌, arith, length-drop}
use Rattle.kat_model.specs.declared.expression.Width.{Width}
use Rattle.text_parser.specs.declared.fault.TextFault.{TextFault}
use Rattle.text_parser.specs.declared.fault.TextFault.TheVariants.{NoMemory}
use Rattle.text_parser.specs.Lexemes.{Lexeme}
use Rattle.text_parser.specs.Parsed.{◌>>=◌, Makes}
use Rattle.problem_file.specs.Numbers.{until, check_numbers}
use Rattle.problem_file.specs.Working.NumberSteps.{check_first}

-- the check of the tokens from `from` up to `end` equals the check of those from `at` up to `end`
abbrev pub NumbersLeft : Width → List Lexeme → ℕ → ℕ → ℕ → Type 0
NumbersLeft w ts from at end = check_numbers w (until (drop from ts) (drop end ts)) ≡ check_numbers w (take (end - at) (drop at ts))

-- the check of the first token, then of the others
first_then : (w : Width) (ts : List Lexeme) (at n : ℕ) → 0 < n → at < length ts → check_numbers w (take n (drop at ts)) ≡ (check_first w (drop at ts) >>= λ u. check_numbers w (take (n - 1) (drop (at + 1) ts)))
first_then w [] at n some lt = absurd (omega (arith, lt))
first_then w (t ∷ ts) zero zero some lt = absurd (omega (arith, some))
first_then w (t ∷ ts) zero (suc n) some lt = let less : suc n - 1 ≡ n = omega arith in rw (less) refl
first_then w (t ∷ ts) (suc at) n some lt = let next : suc at + 1 ≡ suc (at + 1) = omega arith in rw (next) (first_then w ts at n some (omega (arith, lt)))

pub numbers_begin : (w : Width) (ts : List Lexeme) (from end : ℕ) → from ≤ end → end ≤ length ts → NumbersLeft w ts from from end
numbers_begin w ts from end ordered within =
    let n : length (drop from ts) - length (drop end ts) ≡ end - from = omega (arith, length-drop from ts, length-drop end ts, ordered, within) in
    ap (λ k. check_numbers w (take k (drop from ts))) n

pub numbers_go : (w : Width) (ts : List Lexeme) (from at end : ℕ) → at < end → end ≤ length ts → NumbersLeft w ts from at end → check_first w (drop at ts) ≡ Ok tt → NumbersLeft w ts from (at + 1) end
numbers_go w ts from at end lt within left e =
    let less : end - at - 1 ≡ end - (at + 1) = omega arith in
    left ∙ first_then w ts at (end - at) (omega (arith, lt)) (omega (arith, lt, within)) ∙ ap (λ r. r >>= λ u. check_numbers w (take (end - at - 1) (drop (at + 1) ts))) e
    ∙ ap (λ k. check_numbers w (take k (drop (at + 1) ts))) less

failed : (w : Width) (ts : List Lexeme) (from at end : ℕ) → at < end → end ≤ length ts → NumbersLeft w ts from at end → (e : TextFault) → check_first w (drop at ts) ≡ Err e → check_numbers w (until (drop from ts) (drop end ts)) ≡ Err e
failed w ts from at end lt within left e h =
    left ∙ first_then w ts at (end - at) (omega (arith, lt)) (omega (arith, lt, within)) ∙ ap (λ r. r >>= λ u. check_numbers w (take (end - at - 1) (drop (at + 1) ts))) h

pub numbers_fail : (w : Width) (ts : List Lexeme) (from at end : ℕ) → at < end → end ≤ length ts → NumbersLeft w ts from at end → (e : TextFault) → Makes {V = Unit {0}} ⊥ (λ u. u) (Err e) (check_first w (drop at ts)) → Makes {V = Unit {0}} ⊥ (λ u. u) (Err e) (check_numbers w (until (drop from ts) (drop end ts)))
numbers_fail w ts from at end lt within left NoMemory h = h
numbers_fail w ts from at end lt within left e h = failed w ts from at end lt within left e h

pub numbers_end : (w : Width) (ts : List Lexeme) (from at end : ℕ) → end ≤ at → NumbersLeft w ts from at end → check_numbers w (until (drop from ts) (drop end ts)) ≡ Ok tt
numbers_end w ts from at end le left = let none : end - at ≡ 0 = omega (arith, le) in left ∙ ap (λ k. check_numbers w (take k (drop at ts))) none
