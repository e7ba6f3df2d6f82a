-- The primitive tests that a term names after its actions.
use Rattle.std.specs.Prelude.{ℕ, Bool, true, not, ◌&&◌, ◌||◌, List, nat_eq, nat_lt}
use Rattle.std.specs.List.{list_any}
use Rattle.kat_model.specs.Trees.{TestTree, bottom, top, prim, complement, meet, join, Term, zero, one, test, act, sum, product, star, acts}
use Rattle.kat_model.specs.Problems.{counted}

-- whether the list has each primitive test that the test names
abbrev pub names_only : List ℕ → TestTree → Bool
names_only ks bottom = true
names_only ks top = true
names_only ks (prim k) = list_any (λ j. nat_eq j k) ks
names_only ks (complement b) = names_only ks b
names_only ks (meet b c) = names_only ks b && names_only ks c
names_only ks (join b c) = names_only ks b && names_only ks c

-- whether the list has each primitive test that the term names after an action, or, if `late`, anywhere
abbrev pub tests_only_from : List ℕ → Bool → Term → Bool
tests_only_from ks late zero = true
tests_only_from ks late one = true
tests_only_from ks late (test b) = not late || names_only ks b
tests_only_from ks late (act a) = true
tests_only_from ks late (sum e f) = tests_only_from ks late e && tests_only_from ks late f
tests_only_from ks late (product e f) = tests_only_from ks late e && tests_only_from ks (late || nat_lt 0 (counted (acts e))) f
tests_only_from ks late (star e) = tests_only_from ks late e
