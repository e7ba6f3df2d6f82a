-- Kleene algebras (Kozen 1994) and Kleene algebras with tests (Kozen 1997). An algebra has an equivalence as its
-- equality, so that terms modulo derivable equality are an algebra; its elements may be of any size, as relations are.

-- the operations of a Kleene algebra, and its equality
pub record Operations {ℓ} : Type (ℓ + 1) where
  pub Carrier : Type ℓ
  pub Equal : Carrier → Carrier → Type 0
  pub zero : Carrier
  pub one : Carrier
  pub sum : Carrier → Carrier → Carrier
  pub product : Carrier → Carrier → Carrier
  pub star : Carrier → Carrier

-- x is below y: y is not changed by adding x
abbrev pub IsBelow {ℓ} : (K : Operations {ℓ}) → K.Carrier → K.Carrier → Type 0
IsBelow K x y = K.Equal (K.sum x y) y

-- equality is an equivalence that the operations keep
pub record IsCongruence {ℓ} (K : Operations {ℓ}) : Type ℓ where
  pub itself : (x : K.Carrier) → K.Equal x x
  pub symmetric : (x y : K.Carrier) → K.Equal x y → K.Equal y x
  pub transitive : (x y z : K.Carrier) → K.Equal x y → K.Equal y z → K.Equal x z
  pub sums : (x y z w : K.Carrier) → K.Equal x z → K.Equal y w → K.Equal (K.sum x y) (K.sum z w)
  pub products : (x y z w : K.Carrier) → K.Equal x z → K.Equal y w → K.Equal (K.product x y) (K.product z w)
  pub stars : (x y : K.Carrier) → K.Equal x y → K.Equal (K.star x) (K.star y)

-- an idempotent semiring
pub record IsIdempotentSemiring {ℓ} (K : Operations {ℓ}) : Type ℓ where
  pub sum_assoc : (x y z : K.Carrier) → K.Equal (K.sum x (K.sum y z)) (K.sum (K.sum x y) z)
  pub sum_comm : (x y : K.Carrier) → K.Equal (K.sum x y) (K.sum y x)
  pub sum_idem : (x : K.Carrier) → K.Equal (K.sum x x) x
  pub sum_zero : (x : K.Carrier) → K.Equal (K.sum x K.zero) x
  pub product_assoc : (x y z : K.Carrier) → K.Equal (K.product x (K.product y z)) (K.product (K.product x y) z)
  pub one_left : (x : K.Carrier) → K.Equal (K.product K.one x) x
  pub one_right : (x : K.Carrier) → K.Equal (K.product x K.one) x
  pub zero_left : (x : K.Carrier) → K.Equal (K.product K.zero x) K.zero
  pub zero_right : (x : K.Carrier) → K.Equal (K.product x K.zero) K.zero
  pub dist_left : (x y z : K.Carrier) → K.Equal (K.product x (K.sum y z)) (K.sum (K.product x y) (K.product x z))
  pub dist_right : (x y z : K.Carrier) → K.Equal (K.product (K.sum x y) z) (K.sum (K.product x z) (K.product y z))

-- a Kleene algebra: an idempotent semiring in which p* is a fixed point, and p*.q and q.p* are least (Kozen 1994)
pub record IsKleeneAlgebra {ℓ} (K : Operations {ℓ}) : Type ℓ where
  pub congruence : IsCongruence K
  pub semiring : IsIdempotentSemiring K
  pub unfold_left : (x : K.Carrier) → K.Equal (K.star x) (K.sum K.one (K.product x (K.star x)))
  pub unfold_right : (x : K.Carrier) → K.Equal (K.star x) (K.sum K.one (K.product (K.star x) x))
  pub least_left : (p q r : K.Carrier) → IsBelow K (K.sum q (K.product p r)) r → IsBelow K (K.product (K.star p) q) r
  pub least_right : (p q r : K.Carrier) → IsBelow K (K.sum q (K.product r p)) r → IsBelow K (K.product q (K.star p)) r

pub record KleeneAlgebra {ℓ} : Type (ℓ + 1) where
  pub operations : Operations {ℓ}
  pub open operations use *
  pub laws : IsKleeneAlgebra operations

-- Some elements are tests, and they are a Boolean algebra under the sum, the product and the complement (the axioms of
-- Huntington 1904; those that hold in every semiring are left out).
pub record IsBooleanAlgebra {ℓ} (K : Operations {ℓ}) (IsTest : K.Carrier → Type 0) (complement : K.Carrier → K.Carrier) : Type ℓ where
  pub zero_is_test : IsTest K.zero
  pub one_is_test : IsTest K.one
  pub sum_is_test : (b c : K.Carrier) → IsTest b → IsTest c → IsTest (K.sum b c)
  pub product_is_test : (b c : K.Carrier) → IsTest b → IsTest c → IsTest (K.product b c)
  pub complement_is_test : (b : K.Carrier) → IsTest b → IsTest (complement b)
  pub product_comm : (b c : K.Carrier) → IsTest b → IsTest c → K.Equal (K.product b c) (K.product c b)
  pub sum_dist : (b c d : K.Carrier) → IsTest b → IsTest c → IsTest d → K.Equal (K.sum b (K.product c d)) (K.product (K.sum b c) (K.sum b d))
  pub sum_complement : (b : K.Carrier) → IsTest b → K.Equal (K.sum b (complement b)) K.one
  pub product_complement : (b : K.Carrier) → IsTest b → K.Equal (K.product b (complement b)) K.zero

-- a Kleene algebra with tests
pub record TestAlgebra {ℓ} : Type (ℓ + 1) where
  pub kleene : KleeneAlgebra {ℓ}
  pub open kleene use *
  pub IsTest : Carrier → Type 0
  pub complement : Carrier → Carrier
  pub boolean : IsBooleanAlgebra operations IsTest complement
