-- Tests of two comparisons that several facts share.
use Rattle.std.specs.Prelude.{ℕ, Bool, false, ◌&&◌, nat_lt}
use Rattle.linear_forms.specs.Arithmetic.{form_difference}
use Rattle.linear_forms.specs.Comparisons.{canonical}
use Rattle.linear_forms.specs.Sameness.{is_same_form}
use Rattle.linear_forms.specs.declared.comparison.Atomic.TheVariants.{Zero, Less}
use Rattle.abstraction.specs.Facts.{TestRowOf}

-- whether the first comparison comes before the second, and they are f < g and g < f
abbrev pub are_opposite : TestRowOf → TestRowOf → Bool
are_opposite (i, Less f g) (j, Less d e) = nat_lt i j && (is_same_form f e && is_same_form g d)
are_opposite a b = false

-- whether the comparisons are f < g and f = g
abbrev pub are_strict_and_equal : ℕ → TestRowOf → TestRowOf → Bool
are_strict_and_equal m (i, Less f g) (j, Zero z) = is_same_form z (canonical m (form_difference m f g))
are_strict_and_equal m a b = false
