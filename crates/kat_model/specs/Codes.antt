-- Codes of terms as trees of numbers, by which the logic distinguishes the values of a model.
use Rattle.std.specs.Prelude.{◌≡◌, refl}
use Rattle.std.proofs.Common.{ap}
use mathlib.Core.Path.{ap₂}
use base.Stored.{Gv, gnil, gnum, gcons}
use denote.Struct.Codes.{itself}
use Rattle.std.specs.Coded.{Coded, code_by}
use Rattle.kat_model.specs.Trees.{TestTree, bottom, top, prim, complement, meet, join, Term, zero, one, test, act, sum, product, star}

abbrev pub test_code : TestTree → Gv
test_code bottom = gnil
test_code top = gcons gnil gnil
test_code (prim k) = gnum k
test_code (complement b) = gcons (gnum 0) (test_code b)
test_code (meet b c) = gcons (gcons gnil (test_code b)) (test_code c)
test_code (join b c) = gcons (gcons (gnum 0) (test_code b)) (test_code c)

abbrev pub coded_as_test : Gv → TestTree
coded_as_test gnil = bottom
coded_as_test (gnum k) = prim k
coded_as_test (gcons gnil v) = top
coded_as_test (gcons (gnum k) v) = complement (coded_as_test v)
coded_as_test (gcons (gcons gnil u) v) = meet (coded_as_test u) (coded_as_test v)
coded_as_test (gcons (gcons (gnum k) u) v) = join (coded_as_test u) (coded_as_test v)
coded_as_test (gcons (gcons (gcons x y) u) v) = bottom

abbrev pub term_code : Term → Gv
term_code zero = gnil
term_code one = gcons gnil gnil
term_code (test b) = gcons gnil (gcons gnil (test_code b))
term_code (act a) = gnum a
term_code (star e) = gcons (gnum 0) (term_code e)
term_code (sum e f) = gcons (gcons gnil (term_code e)) (term_code f)
term_code (product e f) = gcons (gcons (gnum 0) (term_code e)) (term_code f)

abbrev pub coded_as_term : Gv → Term
coded_as_term gnil = zero
coded_as_term (gnum a) = act a
coded_as_term (gcons gnil (gcons x v)) = test (coded_as_test v)
coded_as_term (gcons gnil gnil) = one
coded_as_term (gcons gnil (gnum k)) = one
coded_as_term (gcons (gnum k) v) = star (coded_as_term v)
coded_as_term (gcons (gcons gnil u) v) = sum (coded_as_term u) (coded_as_term v)
coded_as_term (gcons (gcons (gnum k) u) v) = product (coded_as_term u) (coded_as_term v)
coded_as_term (gcons (gcons (gcons x y) u) v) = one

pub test_of_code : (b : TestTree) → coded_as_test (test_code b) ≡ b
test_of_code bottom = refl
test_of_code top = refl
test_of_code (prim k) = refl
test_of_code (complement b) = ap complement (test_of_code b)
test_of_code (meet b c) = ap₂ meet (test_of_code b) (test_of_code c)
test_of_code (join b c) = ap₂ join (test_of_code b) (test_of_code c)

pub term_of_code : (e : Term) → coded_as_term (term_code e) ≡ e
term_of_code zero = refl
term_of_code one = refl
term_of_code (test b) = ap test (test_of_code b)
term_of_code (act a) = refl
term_of_code (sum e f) = ap₂ sum (term_of_code e) (term_of_code f)
term_of_code (product e f) = ap₂ product (term_of_code e) (term_of_code f)
term_of_code (star e) = ap star (term_of_code e)

abbrev pub coded_term : Coded Term
coded_term = code_by Gv itself term_code coded_as_term term_of_code
