-- Whether a term is guarded, by its form.
use Rattle.std.specs.Prelude.{Bool, true, false, ◌&&◌}
use Rattle.kat_model.specs.Trees.{complement, Term, zero, one, test, act, sum, product, star}
use Rattle.kat_model.specs.Pairs.{same_test}

-- whether the terms are a test and its complement
abbrev pub are_opposite : Term → Term → Bool
are_opposite (test b) (test (complement c)) = same_test b c
are_opposite e f = false

abbrev pub is_guarded : Term → Bool
is_guarded zero = true
is_guarded one = true
is_guarded (test b) = true
is_guarded (act a) = true
is_guarded (sum (product x e) (product y f)) = are_opposite x y && (is_guarded e && is_guarded f)
is_guarded (sum e f) = false
is_guarded (product (star (product x e)) y) = are_opposite x y && is_guarded e
is_guarded (product (star e) f) = false
is_guarded (product e f) = is_guarded e && is_guarded f
is_guarded (star e) = false
