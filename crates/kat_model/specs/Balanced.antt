-- Balanced trees over a list: a node joins the tree of the first half, which is the shorter one, and the tree of the
-- rest.
use Rattle.std.specs.Prelude.{ℕ, zero, suc, ◌/◌, List, [], ◌∷◌, length, take, drop}
use Rattle.kat_model.specs.Trees.{Term, zero as term_zero, one, sum, product}

-- the tree of a list of at most n members
abbrev pub balanced_within : {X : Type 0} → X → (X → X → X) → ℕ → List X → X
balanced_within unit node zero xs = unit
balanced_within unit node (suc n) [] = unit
balanced_within unit node (suc n) (x ∷ []) = x
balanced_within unit node (suc n) (x ∷ y ∷ xs) =
    node
    (balanced_within unit node n (take (length (x ∷ y ∷ xs) / 2) (x ∷ y ∷ xs)))
    (balanced_within unit node n (drop (length (x ∷ y ∷ xs) / 2) (x ∷ y ∷ xs)))

abbrev pub balanced : {X : Type 0} → X → (X → X → X) → List X → X
balanced unit node xs = balanced_within unit node (length xs) xs

-- the sum of a list of terms, and their product in order
abbrev pub sum_of : List Term → Term
sum_of = balanced term_zero sum

abbrev pub product_of : List Term → Term
product_of = balanced one product
