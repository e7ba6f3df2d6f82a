-- Stores followed by a counter.
use Rattle.std.proofs.Common.{◌≡◌, ℕ, ◌+◌, ◌-◌, ◌*◌, ◌%◌, ◌<◌, ◌≤◌, List, [], ◌∷◌, ◌++◌, length, set, get_or, Bool, not, ◌&&◌, ◌||◌, refl, sym, ap, ◌∙◌, arith}
use Rattle.std.proofs.lemmas.List.{get_or_append_left, get_or_at, set_at, set-append_left}
use Rattle.std.proofs.Math.Nat.{mod-eq_of_lt}
use mathlib.Core.Path.{ap₂}
use Rattle.kat_model.specs.Expressions.{ExprTree, number, variable, plus, minus, times, CondTree, always, never, named, compared, negation, both, either}
use Rattle.kat_model.specs.Stores.{modulus, Store, value, compares, holds}
use Rattle.kat_model.specs.declared.expression.Width.{Width}
use Rattle.one_loop.specs.Variables.{ExprHasVarsBelow, CondHasVarsBelow}
use Rattle.one_loop.specs.Forms.{with_counter}

-- reading the counter, and setting it
pub counter_value : (w : Width) (v c : ℕ) (s : Store) → length s ≡ v → value w (with_counter s c) (variable v) ≡ c
counter_value w v c s len = get_or_at s c [] 0 v len

pub counter_set : (v c n : ℕ) (s : Store) → length s ≡ v → set (with_counter s c) v n ≡ with_counter s n
counter_set v c n s len = set_at s c [] n v len

-- the value of a point is its number, if it is below 2 to the width
pub point_number : (w : Width) (s : Store) (n : ℕ) → n < modulus w → value w s (number n) ≡ n
point_number w s n fits = mod-eq_of_lt fits

-- the values of expressions and conditions over the variables do not depend on the counter
pub value_kept : (w : Width) (v c : ℕ) (s : Store) → length s ≡ v → (e : ExprTree) → ExprHasVarsBelow v e → value w (with_counter s c) e ≡ value w s e
value_kept w v c s len (number n) h = refl
value_kept w v c s len (variable k) h = get_or_append_left s (c ∷ []) 0 k (omega (arith, len, h))
value_kept w v c s len (plus e f) h = ap₂ (λ m n. (m + n) % modulus w) (value_kept w v c s len e h.0) (value_kept w v c s len f h.1)
value_kept w v c s len (minus e f) h = ap₂ (λ m n. (m + (modulus w - n)) % modulus w) (value_kept w v c s len e h.0) (value_kept w v c s len f h.1)
value_kept w v c s len (times e f) h = ap₂ (λ m n. (m * n) % modulus w) (value_kept w v c s len e h.0) (value_kept w v c s len f h.1)

pub holds_kept : (w : Width) (v c : ℕ) (s : Store) → length s ≡ v → (b : CondTree) → CondHasVarsBelow v b → holds w (with_counter s c) b ≡ holds w s b
holds_kept w v c s len always h = refl
holds_kept w v c s len never h = refl
holds_kept w v c s len (named k) h = refl
holds_kept w v c s len (compared rel e f) h = ap₂ (compares rel) (value_kept w v c s len e h.0) (value_kept w v c s len f h.1)
holds_kept w v c s len (negation b) h = ap not (holds_kept w v c s len b h)
holds_kept w v c s len (both b d) h = ap₂ (λ x y. x && y) (holds_kept w v c s len b h.0) (holds_kept w v c s len d h.1)
holds_kept w v c s len (either b d) h = ap₂ (λ x y. x || y) (holds_kept w v c s len b h.0) (holds_kept w v c s len d h.1)

-- setting a variable does not change the counter
pub set_kept : (v c x n : ℕ) (s : Store) → length s ≡ v → x < v → set (with_counter s c) x n ≡ with_counter (set s x n) c
set_kept v c x n s len below = set-append_left s (c ∷ []) x n (omega (arith, len, below))
