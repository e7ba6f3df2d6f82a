-- Facts about optional values and truth values.
use Rattle.std.proofs.Common.{◌≡◌, ◌⊎◌, Bool, true, false, cond, Option, None, Some, inl, inr, refl, sym}
use Rattle.std.specs.Option.{option_map, option_and_then, option_or}

-- two truth values that imply each other are equal
pub same_bool : (a b : Bool) → (a ≡ true → b ≡ true) → (b ≡ true → a ≡ true) → a ≡ b
same_bool true b f g = sym (f refl)
same_bool false true f g = g refl
same_bool false false f g = refl

pub some_of_map : {X Y : Type 0} (f : X → Y) (o : Option X) (y : Y) → option_map f o ≡ Some y → (x : X) × (o ≡ Some x) × (f x ≡ y)
some_of_map f None y e = cc
some_of_map f (Some x) y e = (x, refl, cc)

pub some_of_then : {X Y : Type 0} (f : X → Option Y) (o : Option X) (y : Y) → option_and_then f o ≡ Some y → (x : X) × (o ≡ Some x) × (f x ≡ Some y)
some_of_then f None y e = cc
some_of_then f (Some x) y e = (x, refl, e)

pub none_parts : {X : Type 0} (o p : Option X) → option_or o p ≡ None → (o ≡ None) × (p ≡ None)
none_parts None p e = (refl, e)
none_parts (Some x) p e = cc

-- a value that a test gives, and one that the first of two tests gives
pub some_of_cond : {X : Type 0} (b : Bool) (x y : X) → cond b (Some x) None ≡ Some y → (b ≡ true) × (x ≡ y)
some_of_cond true x y e = (refl, cc)
some_of_cond false x y e = cc

pub some_of_conds : {X : Type 0} (b c : Bool) (x y z : X) → cond b (Some x) (cond c (Some y) None) ≡ Some z → ((b ≡ true) × (x ≡ z)) ⊎ ((c ≡ true) × (y ≡ z))
some_of_conds true c x y z e = inl (refl, cc)
some_of_conds false true x y z e = inr (refl, cc)
some_of_conds false false x y z e = cc
