-- Codes of forms as trees of numbers, by which the logic distinguishes the values of a model.
use Rattle.std.specs.Prelude.{◌≡◌, refl}
use Rattle.std.proofs.Common.{ap}
use mathlib.Core.Path.{ap₂}
use base.Stored.{Gv, gnil, gnum, gcons}
use denote.Struct.Codes.{itself}
use Rattle.std.specs.Coded.{Coded, code_by, coded×, coded_ℕ}
use Rattle.linear_forms.specs.Forms.{FormTree, constant, var_term, product_term, MonoTree, var, product, TermTree}

abbrev pub form_code : FormTree → Gv
form_code (constant c) = gnum c
form_code (var_term k t rest) = gcons (gnum k) (gcons (gnum t) (form_code rest))
form_code (product_term f g t rest) = gcons (gcons (form_code f) (form_code g)) (gcons (gnum t) (form_code rest))

abbrev pub coded_as_form : Gv → FormTree
coded_as_form gnil = constant 0
coded_as_form (gnum c) = constant c
coded_as_form (gcons (gnum k) (gcons (gnum t) v)) = var_term k t (coded_as_form v)
coded_as_form (gcons (gcons x y) (gcons (gnum t) v)) = product_term (coded_as_form x) (coded_as_form y) t (coded_as_form v)
coded_as_form (gcons x y) = constant 0

pub form_of_code : (f : FormTree) → coded_as_form (form_code f) ≡ f
form_of_code (constant c) = refl
form_of_code (var_term k t rest) = ap (var_term k t) (form_of_code rest)
form_of_code (product_term f g t rest) =
    ap₂ (λ make r. make r) (ap₂ (λ x y. product_term x y t) (form_of_code f) (form_of_code g)) (form_of_code rest)

abbrev pub coded_form : Coded FormTree
coded_form = code_by Gv itself form_code coded_as_form form_of_code

abbrev pub mono_code : MonoTree → Gv
mono_code (var k) = gnum k
mono_code (product f g) = gcons (form_code f) (form_code g)

abbrev pub coded_as_mono : Gv → MonoTree
coded_as_mono gnil = var 0
coded_as_mono (gnum k) = var k
coded_as_mono (gcons x y) = product (coded_as_form x) (coded_as_form y)

pub mono_of_code : (p : MonoTree) → coded_as_mono (mono_code p) ≡ p
mono_of_code (var k) = refl
mono_of_code (product f g) = ap₂ product (form_of_code f) (form_of_code g)

abbrev pub coded_mono : Coded MonoTree
coded_mono = code_by Gv itself mono_code coded_as_mono mono_of_code

abbrev pub coded_term : Coded TermTree
coded_term = coded× coded_mono coded_ℕ
