-- Worked examples of values and conditions in stores. The expected values were found by hand.
use Rattle.std.proofs.Common.{◌≡◌, [], ◌∷◌, true, false, refl}
use Rattle.kat_model.specs.Expressions.{ExprTree, number, variable, plus, minus, times, CondTree, always, never, named, compared, negation, both, either, any_of, all_of}
use Rattle.kat_model.specs.Stores.{value, holds}
use Rattle.kat_model.specs.declared.expression.Width.TheVariants.{W8, W16, W64}
use Rattle.kat_model.specs.declared.expression.Rel.TheVariants.{Eq, Ne, Lt, Le, Gt, Ge}

-- Values wrap around at the end of the width.

sum_within : value W8 [] (plus (number 200) (number 55)) ≡ 255
sum_within = refl

sum_beyond : value W8 [] (plus (number 200) (number 56)) ≡ 0
sum_beyond = refl

difference_within : value W8 [] (minus (number 7) (number 5)) ≡ 2
difference_within = refl

difference_beyond : value W8 [] (minus (number 5) (number 7)) ≡ 254
difference_beyond = refl

product_beyond : value W8 [] (times (number 16) (number 17)) ≡ 16
product_beyond = refl

product_wider : value W16 [] (times (number 16) (number 17)) ≡ 272
product_wider = refl

number_beyond : value W8 [] (number 300) ≡ 44
number_beyond = refl

less_than_nothing : value W64 [] (minus (number 0) (number 1)) ≡ 18446744073709551615
less_than_nothing = refl

second_variable : value W8 (3 ∷ 5 ∷ []) (variable 1) ≡ 5
second_variable = refl

-- Comparisons are unsigned.

abbrev five : ExprTree
five = number 5

abbrev x : ExprTree
x = variable 0

greatest_is_not_less : holds W8 (255 ∷ []) (compared Lt x five) ≡ false
greatest_is_not_less = refl

equal_is_at_most : holds W8 (5 ∷ []) (compared Le x five) ≡ true
equal_is_at_most = refl

equal_is_not_less : holds W8 (5 ∷ []) (compared Lt x five) ≡ false
equal_is_not_less = refl

equal_is_at_least : holds W8 (5 ∷ []) (compared Ge x five) ≡ true
equal_is_at_least = refl

equal_is_not_greater : holds W8 (5 ∷ []) (compared Gt x five) ≡ false
equal_is_not_greater = refl

equal_is_equal : holds W8 (5 ∷ []) (compared Eq x five) ≡ true
equal_is_equal = refl

less_is_not_equal : holds W8 (4 ∷ []) (compared Ne x five) ≡ true
less_is_not_equal = refl

less_is_less : holds W8 (4 ∷ []) (compared Lt x five) ≡ true
less_is_less = refl

less_is_not_greater : holds W8 (4 ∷ []) (compared Gt x five) ≡ false
less_is_not_greater = refl

both_differ : holds W8 (4 ∷ []) (both always (compared Eq x five)) ≡ false
both_differ = refl

either_one : holds W8 (4 ∷ []) (either (negation (compared Eq x five)) never) ≡ true
either_one = refl

-- A named test is false, since a store gives it no value.

named_is_false : holds W8 (4 ∷ []) (named 0) ≡ false
named_is_false = refl

-- The first half is the shorter one.

three_by_halves : (b c d : CondTree) → any_of (b ∷ c ∷ d ∷ []) ≡ either b (either c d)
three_by_halves b c d = refl

all_of_none : all_of [] ≡ always
all_of_none = refl
