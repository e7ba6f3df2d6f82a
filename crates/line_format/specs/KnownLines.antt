-- The order of a set of the lines so far, in which an equal line is found fast.
use Rattle.std.specs.Prelude.{◌≡◌}
use Rattle.std.specs.declared.cmp.Ordering.{Ordering}
use Rattle.std.specs.declared.cmp.Ordering.TheVariants.{Equal}

-- only equal members compare as equal, and each member compares as equal to itself
abbrev pub Distinguishes : {K : Type 0} → (K → K → Ordering) → Type 0
Distinguishes {K} R = (x y : K) → R x y ≡ Equal → x ≡ y

abbrev pub IsReflexive : {K : Type 0} → (K → K → Ordering) → Type 0
IsReflexive {K} R = (x : K) → R x x ≡ Equal
