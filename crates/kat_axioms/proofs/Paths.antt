-- The sums over all paths between two states that visit given states in between (Kleene 1956; McNaughton and Yamada
-- 1960). They solve the linear inequalities that the edges say, and they are least.
use Rattle.std.proofs.Common.{inl, inr, List, [], ◌∷◌, subst}
use Rattle.kat_model.specs.Members.{Has}
use Rattle.kat_axioms.specs.Algebras.{IsBelow, KleeneAlgebra}
use Rattle.kat_axioms.proofs.Orders.{below_itself, below_trans, left_below_sum, right_below_sum, product_left_below, product_right_below, grouped_right, sum_product_below, one_below_star, last_step_below_star, star_product_below, equal_below}

module _ {ℓ} (K : KleeneAlgebra {ℓ}) {I : Type 0} (edge : I → I → K.Carrier) where
  open K use {Carrier, Equal, zero, one, sum, product, star, laws}

  abbrev Below : Carrier → Carrier → Type 0
  Below = IsBelow K.operations

  -- the sum over the paths from i to j through these states
  abbrev pub paths : List I → I → I → Carrier
  paths [] i j = edge i j
  paths (k ∷ ks) i j = sum (paths ks i j) (product (paths ks i k) (product (star (paths ks k k)) (paths ks k j)))

  pub edge_below : (ks : List I) (i j : I) → Below (edge i j) (paths ks i j)
  edge_below [] i j = below_itself K (edge i j)
  edge_below (k ∷ ks) i j = below_trans K _ _ _ (edge_below ks i j) (left_below_sum K _ _)

  -- a path to the first state, followed by a path from it
  through : (ks : List I) (i k j : I) → Below (product (paths (k ∷ ks) i k) (paths ks k j)) (paths (k ∷ ks) i j)
  through ks i k j =
      let cycle = paths ks k k in
      let rest = paths ks k j in
      below_trans K _ _ _
      (sum_product_below K _ _ rest (product (paths ks i k) (product (star cycle) rest))
      (product_right_below K _ rest (product (star cycle) rest) (started cycle rest))
      (grouped_right K _ _ rest _ (product_right_below K _ _ _ (grouped_right' cycle rest))))
      (right_below_sum K _ _)
    where
      started : (x y : Carrier) → Below y (product (star x) y)
      started x y =
          below_trans K _ _ _ (equal_below K y (product one y) (product one y) (laws.congruence.symmetric _ _ (laws.semiring.one_left y)) (below_itself K _))
          (product_left_below K one (star x) y (one_below_star K x))

      grouped_right' : (x y : Carrier) → Below (product (product (star x) x) y) (product (star x) y)
      grouped_right' x y = product_left_below K _ _ y (last_step_below_star K x)

  -- a path that ends in one of the states may continue by an edge
  pub extended : (ks : List I) (i j l : I) → Has ks j → Below (product (paths ks i j) (edge j l)) (paths ks i l)
  extended [] i j l h = absurd h
  extended (k ∷ ks) i j l (inl e) =
      subst (λ m. Below (product (paths (k ∷ ks) i m) (edge m l)) (paths (k ∷ ks) i l)) e
      (below_trans K _ _ _ (product_right_below K (paths (k ∷ ks) i k) _ _ (edge_below ks k l)) (through ks i k l))
  extended (k ∷ ks) i j l (inr h) =
      sum_product_below K _ _ (edge j l) _
      (below_trans K _ _ _ (extended ks i j l h) (left_below_sum K _ _))
      (below_trans K _ _ _
      (grouped_right K _ _ (edge j l) _ (product_right_below K (paths ks i k) _ _
      (grouped_right K _ _ (edge j l) _ (product_right_below K (star (paths ks k k)) _ _ (extended ks k j l h)))))
      (right_below_sum K _ _))

  -- values that the edges do not exceed are not exceeded by paths
  pub paths_below : (w : I → Carrier) → ((i j : I) → Below (product (edge i j) (w j)) (w i)) → (ks : List I) (i j : I) → Below (product (paths ks i j) (w j)) (w i)
  paths_below w each [] i j = each i j
  paths_below w each (k ∷ ks) i j =
      let below = paths_below w each ks in
      sum_product_below K _ _ (w j) (w i) (below i j)
      (grouped_right K _ _ (w j) (w i)
      (below_trans K _ _ _
      (product_right_below K (paths ks i k) _ (w k)
      (grouped_right K _ _ (w j) (w k) (star_product_below K _ _ (w k) (below k j) (below k k))))
      (below i k)))
