-- The order of a Kleene algebra, in which sums are least upper bounds, products are monotone, and sums over lists
-- distribute.
use Rattle.std.proofs.Common.{inl, inr, ⊎_elim, List, [], ◌∷◌, refl, subst}
use Rattle.kat_model.specs.Members.{Has}
use Rattle.kat_axioms.specs.Algebras.{IsBelow, KleeneAlgebra}

-- the sum of the values of a list
module _ {ℓ} (K : KleeneAlgebra {ℓ}) where
  abbrev pub total : {I : Type 0} → (I → K.Carrier) → List I → K.Carrier
  total f [] = K.zero
  total f (i ∷ is) = K.sum (f i) (total f is)

module _ {ℓ} (K : KleeneAlgebra {ℓ}) where
  open K use {Carrier, Equal, zero, one, sum, product, star, laws}
  open K.laws.congruence use {itself, symmetric, transitive, sums, products}
  open K.laws.semiring use {sum_assoc, sum_comm, sum_idem, sum_zero, product_assoc, one_left, one_right, zero_left, zero_right, dist_left, dist_right}

  abbrev Below : Carrier → Carrier → Type 0
  Below = IsBelow K.operations

  pub below_itself : (x : Carrier) → Below x x
  below_itself x = sum_idem x

  -- what is equal to an upper bound is one
  pub equal_below : (x y z : Carrier) → Equal x y → Below y z → Below x z
  equal_below x y z e b = transitive _ _ _ (sums x z y z e (itself z)) b

  pub below_equal : (x y z : Carrier) → Below x y → Equal y z → Below x z
  below_equal x y z b e = transitive _ _ _ (sums x z x y (itself x) (symmetric y z e)) (transitive _ _ _ b e)

  pub below_trans : (x y z : Carrier) → Below x y → Below y z → Below x z
  below_trans x y z p q =
      transitive _ _ _ (sums x z x (sum y z) (itself x) (symmetric _ _ q))
      (transitive _ _ _ (sum_assoc x y z) (transitive _ _ _ (sums (sum x y) z y z p (itself z)) q))

  pub equal_if_below : (x y : Carrier) → Below x y → Below y x → Equal x y
  equal_if_below x y p q = transitive _ _ _ (symmetric _ _ q) (transitive _ _ _ (sum_comm y x) p)

  -- ---- sums

  pub zero_below : (x : Carrier) → Below zero x
  zero_below x = transitive _ _ _ (sum_comm zero x) (sum_zero x)

  pub left_below_sum : (x y : Carrier) → Below x (sum x y)
  left_below_sum x y = transitive _ _ _ (sum_assoc x x y) (sums (sum x x) y x y (sum_idem x) (itself y))

  pub right_below_sum : (x y : Carrier) → Below y (sum x y)
  right_below_sum x y = below_equal y (sum y x) (sum x y) (left_below_sum y x) (sum_comm y x)

  pub sum_below : (x y z : Carrier) → Below x z → Below y z → Below (sum x y) z
  sum_below x y z p q =
      transitive _ _ _ (symmetric _ _ (sum_assoc x y z)) (transitive _ _ _ (sums x (sum y z) x z (itself x) q) p)

  module _ {I : Type 0} (f : I → Carrier) where
    pub below_total : (is : List I) (i : I) → Has is i → Below (f i) (total K f is)
    below_total [] i h = absurd h
    below_total (j ∷ is) i h =
        ⊎_elim
        (λ e. subst (λ k. Below (f k) (sum (f j) (total K f is))) e (left_below_sum (f j) (total K f is)))
        (λ k. below_trans _ _ _ (below_total is i k) (right_below_sum (f j) (total K f is)))
        h

    pub total_below : (is : List I) (z : Carrier) → ((i : I) → Has is i → Below (f i) z) → Below (total K f is) z
    total_below [] z each = zero_below z
    total_below (j ∷ is) z each = sum_below (f j) (total K f is) z (each j (inl refl)) (total_below is z (λ i h. each i (inr h)))

  -- equal members have equal sums
  pub total_equal : {I : Type 0} (f g : I → Carrier) (is : List I) → ((i : I) → Has is i → Equal (f i) (g i)) → Equal (total K f is) (total K g is)
  total_equal f g [] each = itself zero
  total_equal f g (j ∷ is) each = sums _ _ _ _ (each j (inl refl)) (total_equal f g is (λ i h. each i (inr h)))

  -- ---- products

  pub product_left_below : (x y z : Carrier) → Below x y → Below (product x z) (product y z)
  product_left_below x y z p =
      transitive _ _ _ (symmetric _ _ (dist_right x y z)) (products (sum x y) z y z p (itself z))

  pub product_right_below : (x y z : Carrier) → Below y z → Below (product x y) (product x z)
  product_right_below x y z p =
      transitive _ _ _ (symmetric _ _ (dist_left x y z)) (products x (sum y z) x z (itself x) p)

  pub product_below : (x y z w : Carrier) → Below x z → Below y w → Below (product x y) (product z w)
  product_below x y z w p q = below_trans _ _ _ (product_left_below x z y p) (product_right_below z y w q)

  -- a factor below 1 only makes a product smaller
  pub left_factor_below : (x y : Carrier) → Below x one → Below (product x y) y
  left_factor_below x y p = below_equal _ _ _ (product_left_below x one y p) (one_left y)

  pub right_factor_below : (x y : Carrier) → Below y one → Below (product x y) x
  right_factor_below x y p = below_equal _ _ _ (product_right_below x y one p) (one_right x)

  pub grouped_left : (x y z w : Carrier) → Below (product (product x y) z) w → Below (product x (product y z)) w
  grouped_left x y z w p = equal_below _ _ _ (product_assoc x y z) p

  pub grouped_right : (x y z w : Carrier) → Below (product x (product y z)) w → Below (product (product x y) z) w
  grouped_right x y z w p = equal_below _ _ _ (symmetric _ _ (product_assoc x y z)) p

  pub zero_product_below : (x y z : Carrier) → Below x zero → Below (product x y) z
  zero_product_below x y z p =
      below_trans _ _ _ (product_left_below x zero y p) (equal_below _ _ _ (zero_left y) (zero_below z))

  pub product_zero_below : (x y z : Carrier) → Below y zero → Below (product x y) z
  product_zero_below x y z p =
      below_trans _ _ _ (product_right_below x y zero p) (equal_below _ _ _ (zero_right x) (zero_below z))

  pub product_sum_below : (x y z w : Carrier) → Below (product x y) w → Below (product x z) w → Below (product x (sum y z)) w
  product_sum_below x y z w p q = equal_below _ _ _ (dist_left x y z) (sum_below _ _ w p q)

  pub sum_product_below : (x y z w : Carrier) → Below (product x z) w → Below (product y z) w → Below (product (sum x y) z) w
  sum_product_below x y z w p q = equal_below _ _ _ (dist_right x y z) (sum_below _ _ w p q)

  module _ {I : Type 0} (f : I → Carrier) where
    pub product_total_below : (x : Carrier) (is : List I) (z : Carrier) → ((i : I) → Has is i → Below (product x (f i)) z) → Below (product x (total K f is)) z
    product_total_below x [] z each = product_zero_below x zero z (below_itself zero)
    product_total_below x (j ∷ is) z each =
        product_sum_below x (f j) (total K f is) z (each j (inl refl)) (product_total_below x is z (λ i h. each i (inr h)))

    pub total_product_below : (is : List I) (x z : Carrier) → ((i : I) → Has is i → Below (product (f i) x) z) → Below (product (total K f is) x) z
    total_product_below [] x z each = zero_product_below zero x z (below_itself zero)
    total_product_below (j ∷ is) x z each =
        sum_product_below (f j) (total K f is) x z (each j (inl refl)) (total_product_below is x z (λ i h. each i (inr h)))

  -- ---- iteration

  pub one_below_star : (x : Carrier) → Below one (star x)
  one_below_star x = below_equal _ _ _ (left_below_sum one (product x (star x))) (symmetric _ _ (laws.unfold_left x))

  pub step_below_star : (x : Carrier) → Below (product x (star x)) (star x)
  step_below_star x = below_equal _ _ _ (right_below_sum one (product x (star x))) (symmetric _ _ (laws.unfold_left x))

  pub last_step_below_star : (x : Carrier) → Below (product (star x) x) (star x)
  last_step_below_star x = below_equal _ _ _ (right_below_sum one (product (star x) x)) (symmetric _ _ (laws.unfold_right x))

  pub below_star : (x : Carrier) → Below x (star x)
  below_star x =
      below_trans _ _ _
      (equal_below _ _ _ (symmetric _ _ (one_right x)) (product_right_below x one (star x) (one_below_star x)))
      (step_below_star x)

  pub star_product_below : (p q r : Carrier) → Below q r → Below (product p r) r → Below (product (star p) q) r
  star_product_below p q r a b = laws.least_left p q r (sum_below q (product p r) r a b)

  pub product_star_below : (p q r : Carrier) → Below q r → Below (product r p) r → Below (product q (star p)) r
  product_star_below p q r a b = laws.least_right p q r (sum_below q (product r p) r a b)
