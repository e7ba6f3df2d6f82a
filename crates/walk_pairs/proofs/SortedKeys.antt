-- Sorted keys ascend.
use Rattle.std.proofs.Common.{◌≡◌, ℕ, List, [], ◌∷◌, refl, arith, true}
use Rattle.std.specs.List.{AllByRecursion}
use Rattle.std.specs.List.Sorted.{IsStrictlySortedBy}
use Rattle.std.specs.Ordering.{nat_cmp}
use Rattle.std.specs.declared.cmp.Ordering.TheVariants.{Less}
use Rattle.std.proofs.lemmas.Bool.{and_from}
use Rattle.term_nodes.specs.NumberSets.{are_ascending}

below_first : (k : ℕ) (ks : List ℕ) → AllByRecursion (λ y. nat_cmp k y ≡ Less) ks → are_ascending ks ≡ true → are_ascending (k ∷ ks) ≡ true
below_first k [] all e = refl
below_first k (j ∷ ks) all e = and_from _ (are_ascending (j ∷ ks)) (grind (arith, all.0)) e

pub sorted_ascending : (ks : List ℕ) → IsStrictlySortedBy nat_cmp ks → are_ascending ks ≡ true
unfolding IsStrictlySortedBy
sorted_ascending [] s = refl
sorted_ascending (k ∷ ks) s = below_first k ks s.0 (sorted_ascending ks s.1)
