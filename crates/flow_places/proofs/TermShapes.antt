-- The shapes of sums and products are those of their terms.
use Rattle.std.proofs.Common.{◌≡◌, ℕ, ◌+◌, Bool, true, false, if◌then◌else◌, List, [], ◌∷◌, refl, sym, ◌∙◌, ap, arith}
use mathlib.Core.Path.{ap₂}
use Rattle.kat_model.specs.Trees.{Term, zero as nought, one, sum, product, star, term_size}
use Rattle.kat_model.specs.Problems.{counted, terms_size}
use Rattle.flow_places.specs.Elimination.{is_nought, is_unit, plus, times, repeated}
use Rattle.flow_places.specs.declared.shape.Shape.{Shape}
use Rattle.flow_places.specs.Rows.{steps_around}
use Rattle.flow_places.specs.Shapes.{shape_of, zero_shape, shape_joined, shape_plus, shape_times, shape_repeated, way_shape, ways_size}

counted_twice : (a b : ℕ) → counted (a + b + 1) ≡ counted (counted a + counted b + 1)
counted_twice a b = omega arith

shape-sum : (e f : Term) → shape_of (sum e f) ≡ shape_joined (shape_of e) (shape_of f)
shape-sum e f = ap (λ n. record { is_zero = false; is_one = false; size = n }) (counted_twice (term_size e) (term_size f))

shape-product : (e f : Term) → shape_of (product e f) ≡ shape_joined (shape_of e) (shape_of f)
shape-product e f = ap (λ n. record { is_zero = false; is_one = false; size = n }) (counted_twice (term_size e) (term_size f))

pub shape-plus : (e f : Term) → shape_of (plus e f) ≡ shape_plus (shape_of e) (shape_of f)
shape-plus e f = by_tests (is_nought e) (is_nought f)
  where
    by_tests : (p q : Bool) → shape_of (if p then f else if q then e else sum e f) ≡ (if p then shape_of f else if q then shape_of e else shape_joined (shape_of e) (shape_of f))
    by_tests true q = refl
    by_tests false true = refl
    by_tests false false = shape-sum e f

pub shape-times : (e f : Term) → shape_of (times e f) ≡ shape_times (shape_of e) (shape_of f)
shape-times e f = by_tests (is_nought e) (is_nought f) (is_unit e) (is_unit f)
  where
    by_tests : (p q u v : Bool) → shape_of (if p then nought else if q then nought else if u then f else if v then e else product e f)
        ≡ (if p then zero_shape else if q then zero_shape else if u then shape_of f else if v then shape_of e else shape_joined (shape_of e) (shape_of f))
    by_tests true q u v = refl
    by_tests false true u v = refl
    by_tests false false true v = refl
    by_tests false false false true = refl
    by_tests false false false false = shape-product e f

counted_more : (a : ℕ) → counted (a + 1) ≡ counted (counted a + 1)
counted_more a = omega arith

shape-star : (e : Term) → shape_of (star e) ≡ record { is_zero = false; is_one = false; size = counted (counted (term_size e) + 1) }
shape-star e = ap (λ n. record { is_zero = false; is_one = false; size = n }) (counted_more (term_size e))

pub shape-repeated : (e : Term) → shape_of (repeated e) ≡ shape_repeated (shape_of e)
shape-repeated e = by_test (is_nought e)
  where
    by_test : (p : Bool) → shape_of (if p then one else star e) ≡ (if p then record { is_zero = false; is_one = true; size = 1 } else record { is_zero = false; is_one = false; size = counted (counted (term_size e) + 1) })
    by_test true = refl
    by_test false = shape-star e

pub shape-way : (own to around onward : Term) → shape_of (plus own (times to (times around onward))) ≡ way_shape own (shape_of to) (shape_of around) onward
shape-way own to around onward =
    shape-plus own (times to (times around onward))
    ∙ ap (λ s. shape_plus (shape_of own) s) (shape-times to (times around onward) ∙ ap (λ s. shape_times (shape_of to) s) (shape-times around onward))

pub counted_sum : (a b : ℕ) → counted (a + b) ≡ counted (counted a + counted b)
counted_sum a b = omega arith

pub ways-sizes : (to around : Term) (es fs : List Term) → ways_size (shape_of to) (shape_of around) es fs ≡ counted (terms_size (steps_around to around es fs))
ways-sizes to around [] fs = refl
ways-sizes to around (e ∷ es) [] = refl
ways-sizes to around (e ∷ es) (f ∷ fs) =
    let first = shape-way e to around f in
    let size : counted (term_size (plus e (times to (times around f)))) ≡ (way_shape e (shape_of to) (shape_of around) f).size = ap (λ (s : Shape). s.size) first in
    sym
    (counted_sum (term_size (plus e (times to (times around f)))) (terms_size (steps_around to around es fs))
    ∙ rw (size, ← ways-sizes to around es fs) refl)

-- the size of a row without the last place
pub row-sizes : (to around end onward : Term) (es fs : List Term) (steps last : ℕ) (a b : Shape) → a ≡ shape_of to → b ≡ shape_of around →
    steps ≡ ways_size a b es fs → last ≡ (way_shape end a b onward).size →
    counted (steps + last) ≡ counted (terms_size (steps_around to around es fs) + term_size (plus end (times to (times around onward))))
row-sizes to around end onward es fs steps last a b p q h k =
    let size : counted (term_size (plus end (times to (times around onward)))) ≡ (way_shape end (shape_of to) (shape_of around) onward).size = ap (λ (s : Shape). s.size) (shape-way end to around onward) in
    let first : steps ≡ counted (terms_size (steps_around to around es fs)) = h ∙ ap₂ (λ u v. ways_size u v es fs) p q ∙ ways-sizes to around es fs in
    let second : last ≡ counted (term_size (plus end (times to (times around onward)))) = k ∙ ap₂ (λ u v. (way_shape end u v onward).size) p q ∙ sym size in
    ap₂ (λ x y. counted (x + y)) first second
    ∙ sym (counted_sum (terms_size (steps_around to around es fs)) (term_size (plus end (times to (times around onward)))))
