-- The values of two interleaved atoms: each value is at the copy of its test.
use Rattle.std.proofs.Common.{◌≡◌, ℕ, zero, suc, ◌+◌, List, [], ◌∷◌, length, Bool, false, get_or, refl, sym, ap, ◌∙◌, arith}
use Rattle.std.proofs.Math.ListN.{set}
use Rattle.kat_model.specs.Steps.{Atom}
use Rattle.outline_rules.specs.Interleaved.{interleaved}

pub length-interleaved : (x y : Atom) (n : ℕ) → length x ≡ n → length y ≡ n → length (interleaved x y) ≡ n + n
length-interleaved [] y n ex ey = omega (arith, ex)
length-interleaved (a ∷ x) [] n ex ey = absurd (omega (arith, ex, ey))
length-interleaved (a ∷ x) (b ∷ y) zero ex ey = absurd (omega (arith, ex))
length-interleaved (a ∷ x) (b ∷ y) (suc n) ex ey = omega (arith, length-interleaved x y n (omega (arith, ex)) (omega (arith, ey)))

-- an atom over twice as many tests is two interleaved atoms
pub record IsInterleaved (n : ℕ) (z : Atom) : Type 0 where
  pub before : Atom
  pub after : Atom
  pub before_length : length before ≡ n
  pub after_length : length after ≡ n
  pub is : interleaved before after ≡ z

pub atom_parts : (n : ℕ) (z : Atom) → length z ≡ n + n → IsInterleaved n z
atom_parts zero [] e = record { before = []; after = []; before_length = refl; after_length = refl; is = refl }
atom_parts zero (a ∷ z) e = absurd (omega (arith, e))
atom_parts (suc n) [] e = absurd (omega (arith, e))
atom_parts (suc n) (a ∷ []) e = absurd (omega (arith, e))
atom_parts (suc n) (a ∷ b ∷ z) e =
    let p = atom_parts n z (omega (arith, e)) in
    record {
      before = a ∷ p.before;
      after = b ∷ p.after;
      before_length = ap suc p.before_length;
      after_length = ap suc p.after_length;
      is = ap (λ (l : Atom). a ∷ b ∷ l) p.is;
    }

-- the value of a test before the step and after it, in the interleaved atom

pub get_or-before : (x y : Atom) (k j : ℕ) → length x ≡ length y → j ≡ k + k → get_or (interleaved x y) j false ≡ get_or x k false
get_or-before [] y k j e h = refl
get_or-before (a ∷ x) [] k j e h = absurd (omega (arith, e))
get_or-before (a ∷ x) (b ∷ y) zero zero e h = refl
get_or-before (a ∷ x) (b ∷ y) zero (suc j) e h = absurd (omega (arith, h))
get_or-before (a ∷ x) (b ∷ y) (suc k) zero e h = absurd (omega (arith, h))
get_or-before (a ∷ x) (b ∷ y) (suc k) (suc zero) e h = absurd (omega (arith, h))
get_or-before (a ∷ x) (b ∷ y) (suc k) (suc (suc j)) e h = get_or-before x y k j (omega (arith, e)) (omega (arith, h))

pub get_or-after : (x y : Atom) (k j : ℕ) → length x ≡ length y → j ≡ k + k + 1 → get_or (interleaved x y) j false ≡ get_or y k false
get_or-after [] [] k j e h = refl
get_or-after [] (b ∷ y) k j e h = absurd (omega (arith, e))
get_or-after (a ∷ x) [] k j e h = absurd (omega (arith, e))
get_or-after (a ∷ x) (b ∷ y) zero zero e h = absurd (omega (arith, h))
get_or-after (a ∷ x) (b ∷ y) zero (suc zero) e h = refl
get_or-after (a ∷ x) (b ∷ y) zero (suc (suc j)) e h = absurd (omega (arith, h))
get_or-after (a ∷ x) (b ∷ y) (suc k) zero e h = absurd (omega (arith, h))
get_or-after (a ∷ x) (b ∷ y) (suc k) (suc zero) e h = absurd (omega (arith, h))
get_or-after (a ∷ x) (b ∷ y) (suc k) (suc (suc j)) e h = get_or-after x y k j (omega (arith, e)) (omega (arith, h))

-- changing the value of a test before the step or after it, in the interleaved atom

pub set-before : (x y : Atom) (k j : ℕ) (v : Bool) → length x ≡ length y → j ≡ k + k → set (interleaved x y) j v ≡ interleaved (set x k v) y
set-before [] y k j v e h = refl
set-before (a ∷ x) [] k j v e h = absurd (omega (arith, e))
set-before (a ∷ x) (b ∷ y) zero zero v e h = refl
set-before (a ∷ x) (b ∷ y) zero (suc j) v e h = absurd (omega (arith, h))
set-before (a ∷ x) (b ∷ y) (suc k) zero v e h = absurd (omega (arith, h))
set-before (a ∷ x) (b ∷ y) (suc k) (suc zero) v e h = absurd (omega (arith, h))
set-before (a ∷ x) (b ∷ y) (suc k) (suc (suc j)) v e h = ap (λ (l : Atom). a ∷ b ∷ l) (set-before x y k j v (omega (arith, e)) (omega (arith, h)))

pub set-after : (x y : Atom) (k j : ℕ) (v : Bool) → length x ≡ length y → j ≡ k + k + 1 → set (interleaved x y) j v ≡ interleaved x (set y k v)
set-after [] [] k j v e h = refl
set-after [] (b ∷ y) k j v e h = absurd (omega (arith, e))
set-after (a ∷ x) [] k j v e h = absurd (omega (arith, e))
set-after (a ∷ x) (b ∷ y) zero zero v e h = absurd (omega (arith, h))
set-after (a ∷ x) (b ∷ y) zero (suc zero) v e h = refl
set-after (a ∷ x) (b ∷ y) zero (suc (suc j)) v e h = absurd (omega (arith, h))
set-after (a ∷ x) (b ∷ y) (suc k) zero v e h = absurd (omega (arith, h))
set-after (a ∷ x) (b ∷ y) (suc k) (suc zero) v e h = absurd (omega (arith, h))
set-after (a ∷ x) (b ∷ y) (suc k) (suc (suc j)) v e h = ap (λ (l : Atom). a ∷ b ∷ l) (set-after x y k j v (omega (arith, e)) (omega (arith, h)))
