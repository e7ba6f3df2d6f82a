-- The order of the nodes in a set.
use Rattle.std.proofs.Common.{◌≡◌, ℕ, ap}
use Rattle.std.specs.declared.cmp.Ordering.TheVariants.{Equal}
use Rattle.std.specs.Ordering.{nat_cmp, ordering_then}
use Rattle.std.proofs.lemmas.Map.Lookups.{exact_unsigned, exact_pairs}
use Rattle.kat_model.proofs.Numbers.{nat_cmp-own}

pub two_exact : {N : Type 0} (made : ℕ → ℕ → N) (w x y z : ℕ) → ordering_then (nat_cmp w y) (nat_cmp x z) ≡ Equal → made w x ≡ made y z
two_exact made w x y z e = ap (λ (p : ℕ × ℕ). made p.0 p.1) (exact_pairs nat_cmp nat_cmp exact_unsigned exact_unsigned (w, x) (y, z) e)

pub two_own : (x y : ℕ) → ordering_then (nat_cmp x x) (nat_cmp y y) ≡ Equal
two_own x y = rw (nat_cmp-own x) (nat_cmp-own y)
