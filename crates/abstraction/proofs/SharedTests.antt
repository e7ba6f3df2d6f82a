-- Facts by the tests that they share.
use Rattle.std.proofs.Common.{◌≡◌, ℕ, ◌&&◌, refl}
use Rattle.std.proofs.lemmas.Bool.{and_right}
use Rattle.linear_forms.specs.declared.comparison.Atomic.TheVariants.{Zero, Less}
use Rattle.abstraction.specs.declared.rule.Rule.TheVariants.{F2, F3, F6}
use Rattle.abstraction.specs.Facts.{TestRowOf, excludes, one_holds, fact_if, order_fact, equality_fact, three_way_fact}
use Rattle.abstraction.specs.Working.PairTests.{are_opposite, are_strict_and_equal}

pub order_by_test : (a b : TestRowOf) → order_fact a b ≡ fact_if (are_opposite a b) (F2 a.0 b.0) (excludes a.0 b.0)
order_by_test (i, Less f g) (j, Less d e) = refl
order_by_test (i, Less f g) (j, Zero z) = refl
order_by_test (i, Zero z) b = refl

pub equality_by_test : (m : ℕ) (a b : TestRowOf) → equality_fact m a b ≡ fact_if (are_strict_and_equal m a b) (F3 a.0 b.0) (excludes a.0 b.0)
equality_by_test m (i, Less f g) (j, Zero z) = refl
equality_by_test m (i, Less f g) (j, Less d e) = refl
equality_by_test m (i, Zero z) b = refl

pub three_way_by_tests : (m : ℕ) (a b c : TestRowOf) → three_way_fact m a b c ≡ fact_if (are_opposite a b && are_strict_and_equal m a c) (F6 a.0 b.0 c.0) (one_holds a.0 b.0 c.0)
three_way_by_tests m (i, Less f g) (j, Less d e) (k, Zero z) = refl
three_way_by_tests m (i, Less f g) (j, Less d e) (k, Less x y) = rw (and_right (are_opposite (i, Less f g) (j, Less d e)) _ refl) refl
three_way_by_tests m (i, Less f g) (j, Zero y) c = refl
three_way_by_tests m (i, Zero z) b c = refl
