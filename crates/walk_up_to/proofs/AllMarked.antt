-- Whether all of some ids are marked, checked from the last id on.
use Rattle.std.proofs.Common.{◌≡◌, ℕ, suc, ◌+◌, ◌<◌, ◌≤◌, List, [], ◌∷◌, length, get_or, refl, arith, Bool, true, false}
use Rattle.std.proofs.lemmas.Bool.{and_from}
use Rattle.walk_up_to.specs.Marks.{are_marked}

-- the last i ids are marked
abbrev pub AreLastMarked : List Bool → List ℕ → ℕ → Type 0
AreLastMarked marks ids i = (k : ℕ) → k < length ids → length ids ≤ k + i → get_or marks (get_or ids k 0) false ≡ true

each_marked : (marks : List Bool) (ids : List ℕ) → ((k : ℕ) → k < length ids → get_or marks (get_or ids k 0) false ≡ true) → are_marked marks ids ≡ true
each_marked marks [] h = refl
each_marked marks (t ∷ ids) h =
    and_from (get_or marks t false) (are_marked marks ids) (h 0 (omega arith)) (each_marked marks ids (λ k l. h (suc k) (omega (arith, l))))

pub all_last : (marks : List Bool) (ids : List ℕ) (i : ℕ) → length ids ≤ i → AreLastMarked marks ids i → are_marked marks ids ≡ true
all_last marks ids i past each = each_marked marks ids (λ k l. each k l (omega (arith, past)))
