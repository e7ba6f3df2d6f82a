-- The longest prefix of bytes that is valid UTF-8.
use Rattle.std.proofs.Common.{◌≡◌, ◌≤◌, ◌<◌, ℕ, zero, suc, List, length, take, Bool, true, false, eqb, arith, refl, sym, subst, ◌∙◌, take_all}
use Rattle.std.specs.Str.{IsUtf8, IsValidUpTo, is_utf8}
use Rattle.std.proofs.lemmas.Str.{IsUtf8-nil, IsUtf8-from_is_utf8, is_utf8-from_IsUtf8}
use Rattle.std.proofs.lemmas.Bool.{false≢true, eqb-true, eqb-false}

-- the prefix of k bytes is UTF-8, k is at most n, and no longer prefix is UTF-8
abbrev IsLongestFront : List ℕ → ℕ → ℕ → Type 0
IsLongestFront bs n k = (k ≤ n) × IsUtf8 (take k bs) × ((m : ℕ) → k < m → IsUtf8 (take m bs) → ⊥)

-- no prefix of more than n bytes is UTF-8
abbrev NonePast : List ℕ → ℕ → Type 0
NonePast bs n = (m : ℕ) → n < m → IsUtf8 (take m bs) → ⊥

past_next : (m n : ℕ) → (m ≡ suc n → ⊥) → n < m → suc n < m
past_next m n differ h = omega (arith, differ, h)

none_at : (bs : List ℕ) (n : ℕ) → is_utf8 (take (suc n) bs) ≡ false → NonePast bs (suc n) → (m : ℕ) (same : Bool) → eqb m (suc n) ≡ same → n < m → IsUtf8 (take m bs) → ⊥
none_at bs n e none m true s h u = false≢true (sym e ∙ is_utf8-from_IsUtf8 (take (suc n) bs) (subst (λ k. IsUtf8 (take k bs)) (eqb-true m (suc n) s) u))
none_at bs n e none m false s h u = none m (past_next m n (eqb-false m (suc n) s) h) u

pick : (bs : List ℕ) (n : ℕ) (b : Bool) → is_utf8 (take (suc n) bs) ≡ b → NonePast bs (suc n) → (NonePast bs n → (k : ℕ) × IsLongestFront bs n k) → (k : ℕ) × IsLongestFront bs (suc n) k
pick bs n true e none shorter = (suc n, (omega arith, IsUtf8-from_is_utf8 (take (suc n) bs) e, none))
pick bs n false e none shorter =
    let found = shorter (λ m h u. none_at bs n e none m (eqb m (suc n)) refl h u) in
    (found.0, (omega (arith, (found.1).0), (found.1).1, (found.1).2))

longest_front : (bs : List ℕ) (n : ℕ) → NonePast bs n → (k : ℕ) × IsLongestFront bs n k
longest_front bs zero none = (0, (omega arith, IsUtf8-nil, none))
longest_front bs (suc n) none = pick bs n (is_utf8 (take (suc n) bs)) refl none (longest_front bs n)

-- bytes that are not UTF-8 have a longest prefix that is
pub some_front : (bs : List ℕ) → is_utf8 bs ≡ false → (k : ℕ) × IsValidUpTo bs k
some_front bs e =
    let bad = λ (u : IsUtf8 bs). false≢true (sym e ∙ is_utf8-from_IsUtf8 bs u) in
    let found = longest_front bs (length bs) (λ m h u. bad (subst IsUtf8 (take_all m bs (omega (arith, h))) u)) in
    let k = found.0 in
    let front = found.1 in
    let short : k < length bs = omega (arith, front.0, λ (same : k ≡ length bs). bad (subst IsUtf8 (take_all k bs (omega (arith, same))) front.1)) in
    (k, record { short = short; front = front.1; longest = front.2 })
