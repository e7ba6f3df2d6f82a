-- Numbers that are congruent modulo m.
use Rattle.std.proofs.Common.{ℕ, zero, suc, ◌≡◌, ◌+◌, ◌-◌, ◌*◌, ◌%◌, ◌/◌, ◌<◌, sym, ◌∙◌, ap, arith}
use Rattle.std.proofs.Math.Nat.{mod-add-div, add-mul-mod_self_left, mul-suc, suc-mul, mod_self, zero-mod, mod-eq_of_lt}
use Rattle.std.proofs.lemmas.Nat.{mul-mod}

abbrev pub Cong : ℕ → ℕ → ℕ → Type 0
Cong m a b = a % m ≡ b % m

add-mod_first : (a b m : ℕ) → (a % m + b) % m ≡ (a + b) % m
add-mod_first a b m =
    sym (add-mul-mod_self_left (a % m + b) m (a / m))
    ∙ ap (λ n. n % m) (omega (arith, mod-add-div a m))

pub add-mod : (a b m : ℕ) → (a % m + b % m) % m ≡ (a + b) % m
add-mod a b m =
    add-mod_first a (b % m) m
    ∙ ap (λ n. n % m) (omega arith)
    ∙ add-mod_first b a m
    ∙ ap (λ n. n % m) (omega arith)

pub cong_add : (m a b c d : ℕ) → Cong m a b → Cong m c d → Cong m (a + c) (b + d)
cong_add m a b c d p q = sym (add-mod a c m) ∙ rw (p, q) (add-mod b d m)

pub cong_mul : (m a b c d : ℕ) → Cong m a b → Cong m c d → Cong m (a * c) (b * d)
cong_mul m a b c d p q = mul-mod a c m ∙ rw (p, q) (sym (mul-mod b d m))

-- a number is congruent to its remainder
pub cong_cut : (m a : ℕ) → Cong m (a % m) a
cong_cut m a = ap (λ n. n % m) (omega arith) ∙ add-mod_first a 0 m ∙ ap (λ n. n % m) (omega arith)

-- a number is congruent to `v` if `v` is its remainder
pub cong_of : (m a v : ℕ) → a % m ≡ v → v < m → Cong m a v
cong_of m a v e h = e ∙ sym (mod-eq_of_lt h)

-- m - 1 times a number is congruent to its negative
pub negated : (m v : ℕ) → v < m → Cong m ((m - 1) * v) (m - v)
negated m zero h = ap (λ n. n % m) (omega arith) ∙ zero-mod m ∙ sym (mod_self m) ∙ ap (λ n. n % m) (omega arith)
negated zero (suc u) h = absurd (omega (arith, h))
negated (suc k) (suc u) h =
    ap (λ n. n % suc k) (let e : suc k - 1 ≡ k = omega arith in rw (e) (omega (arith, h, mul-suc k u, suc-mul k u))) ∙ add-mul-mod_self_left (suc k - suc u) (suc k) u
