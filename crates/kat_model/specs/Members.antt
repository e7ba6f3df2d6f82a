-- Lists as sets: membership by recursion on the list.
use Rattle.std.specs.Prelude.{◌≡◌, ◌⊎◌, ◌↔◌, List, [], ◌∷◌}

-- the element is a member of the list
abbrev pub Has : {X : Type 0} → List X → X → Type 0
Has [] x = ⊥
Has (y ∷ ys) x = (y ≡ x) ⊎ Has ys x

-- each member of the first list is a member of the second
abbrev pub IsSubset : {X : Type 0} → List X → List X → Type 0
IsSubset {X} xs ys = (x : X) → Has xs x → Has ys x

-- the lists have the same members
abbrev pub SameMembers : {X : Type 0} → List X → List X → Type 0
SameMembers {X} xs ys = (x : X) → Has xs x ↔ Has ys x

-- no member occurs twice
abbrev pub HasNoDoubles : {X : Type 0} → List X → Type 0
HasNoDoubles [] = Unit {0}
HasNoDoubles (x ∷ xs) = (Has xs x → ⊥) × HasNoDoubles xs
