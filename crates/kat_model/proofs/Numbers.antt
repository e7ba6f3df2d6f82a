-- Facts about numbers.
use Rattle.std.proofs.Common.{◌≡◌, ◌⊎◌, ℕ, ◌+◌, ◌<◌, zero, suc, inl, inr, ⊎_elim, refl, ap, arith}
use Rattle.std.specs.declared.cmp.Ordering.TheVariants.{Equal}
use Rattle.std.specs.Ordering.{nat_cmp}
use Rattle.std.proofs.lemmas.Grind.{common_steps}

pub below_next : (j i : ℕ) → j < i + 1 → (j < i) ⊎ (j ≡ i)
below_next zero zero h = inr refl
below_next zero (suc i) h = inl (omega arith)
below_next (suc j) zero h = absurd (omega (arith, h))
below_next (suc j) (suc i) h = ⊎_elim (λ l. inl (omega (arith, l))) (λ e. inr (ap suc e)) (below_next j i (omega (arith, h)))

pub nat_cmp-own : (x : ℕ) → nat_cmp x x ≡ Equal
nat_cmp-own x = grind (arith, common_steps)
