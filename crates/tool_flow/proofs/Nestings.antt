-- The nesting of a construct is within a limit where that of its parts is within one less.
use Rattle.std.proofs.Common.{◌≡◌, ◌+◌, ◌-◌, max, ℕ, zero, suc, Bool, true, ◌&&◌, nat_le, nat_lt, arith}

pub nests : (a n : ℕ) → nat_le (a + 1) n ≡ (nat_lt 0 n && nat_le a (n - 1))
nests a zero = grind arith
nests a (suc n) = grind arith

pub both_nest : (a b n : ℕ) → nat_le (max a b + 1) n ≡ (nat_lt 0 n && (nat_le a (n - 1) && nat_le b (n - 1)))
both_nest a b zero = grind arith
both_nest a b (suc n) = grind arith

pub all_three : (a b c x : Bool) → a ≡ true → b ≡ true → x ≡ c → x ≡ (a && (b && c))
all_three a b c x e f g = rw (e, f) g
