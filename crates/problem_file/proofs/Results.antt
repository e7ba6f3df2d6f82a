-- Consequences of a known result.
use Rattle.std.proofs.Common.{◌≡◌, Bool, true, false, cond as if_true, Result, Ok, Err, refl, ap, subst}
use Rattle.text_parser.specs.declared.fault.TextFault.{TextFault}
use Rattle.text_parser.specs.Parsed.{◌>>=◌}

abbrev pub ok_of : {A : Type 0} → A → Result A TextFault
ok_of x = Ok x

abbrev pub err_of : (A : Type 0) → TextFault → Result A TextFault
err_of A e = Err e

pub same_ok : {A : Type 0} (x y : A) → ok_of x ≡ Ok y → x ≡ y
same_ok {A} x y e = ap (value_or x) e where
  value_or : A → Result A TextFault → A
  value_or z (Ok v) = v
  value_or z (Err f) = z

-- after a step with a known value, the computation continues with that value
pub known : {A B : Type 0} (m : Result A TextFault) (v : A) (k : A → Result B TextFault) (y : Result B TextFault) → m ≡ Ok v → (m >>= k) ≡ y → k v ≡ y
known m v k y e h = subst (λ r. (r >>= k) ≡ y) e h

-- a check that passed
pub passed : {A : Type 0} (b : Bool) (x : TextFault) (v w : A) → if_true b (Err x) (Ok v) ≡ Ok w → (b ≡ false) × (v ≡ w)
passed true x v w e = absurd cc
passed false x v w e = (refl, same_ok v w e)
