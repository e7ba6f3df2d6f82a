-- Saturation of sets of terms, by their numbers: the terms that pairs of sets add to a set.
use Rattle.std.specs.Prelude.{◌≡◌, ℕ, Bool, true, IsTrue, List, Option, Some, None}
use Rattle.kat_model.specs.Members.{Has}
use Rattle.term_nodes.specs.NumberSets.{NumberPair, are_below}

-- the numbers of the pairs are below n
abbrev pub ArePairsBelow : ℕ → List NumberPair → Type 0
ArePairsBelow n ps = (p : NumberPair) → Has ps p → IsTrue (are_below n p.left) × IsTrue (are_below n p.right)

-- the set contains each of the numbers
abbrev pub HoldsAll : (ℕ → Bool) → List ℕ → Type 0
HoldsAll set ks = (k : ℕ) → Has ks k → set k ≡ true

-- the set contains all of one side of a pair if and only if it contains all of the other
abbrev pub IsClosed : List NumberPair → (ℕ → Bool) → Type 0
IsClosed ps set = (p : NumberPair) → Has ps p → (HoldsAll set p.left → HoldsAll set p.right) × (HoldsAll set p.right → HoldsAll set p.left)

-- each closed set that contains these numbers contains the number, or all the wanted numbers
abbrev pub IsReached : List NumberPair → List ℕ → ℕ → Type 0
IsReached ps ks k = (set : ℕ → Bool) → IsClosed ps set → HoldsAll set ks → set k ≡ true

abbrev pub AreReached : List NumberPair → List ℕ → List ℕ → Type 0
AreReached ps ks expected = (k : ℕ) → Has expected k → IsReached ps ks k

-- there is a universal term, and it is reached from both sets
abbrev pub IsReachedByBoth : List NumberPair → Option ℕ → List ℕ → List ℕ → Type 0
IsReachedByBoth ps None ks ls = ⊥
IsReachedByBoth ps (Some u) ks ls = IsReached ps ks u × IsReached ps ls u
