-- The conditions on forms that the arithmetic keeps.
use Rattle.std.specs.Prelude.{ℕ, ◌≡◌, ◌≢◌, ◌<◌}
use Rattle.std.proofs.Common.{Less, Greater}
use Rattle.linear_forms.specs.Forms.{FormTree, constant, var_term, product_term, MonoTree, var, product}
use Rattle.linear_forms.specs.Order.{form_cmp, mono_cmp}

-- the form is not constant: it has a term
abbrev pub IsVarying : FormTree → Type 0
IsVarying (constant c) = ⊥
IsVarying (var_term k t rest) = Unit {0}
IsVarying (product_term f g t rest) = Unit {0}

-- the monomial comes before all monomials of the form
abbrev pub IsBefore : MonoTree → FormTree → Type 0
IsBefore p (constant c) = Unit {0}
IsBefore p (var_term k t rest) = (mono_cmp p (var k) ≡ Less) × IsBefore p rest
IsBefore p (product_term f g t rest) = (mono_cmp p (product f g) ≡ Less) × IsBefore p rest

-- a coefficient is not 0 and is below m
abbrev pub IsCoefficient : ℕ → ℕ → Type 0
IsCoefficient m t = (0 < t) × (t < m)

-- a form modulo m: a constant below m, or a term before a form, with strictly ascending monomials; the two forms of a
-- product are not constant, and the first is not greater than the second
abbrev pub IsForm : ℕ → FormTree → Type 0
IsForm m (constant c) = c < m
IsForm m (var_term k t rest) = IsCoefficient m t × IsBefore (var k) rest × IsForm m rest
IsForm m (product_term f g t rest) =
    IsCoefficient m t × IsBefore (product f g) rest × IsForm m rest
    × IsForm m f × IsForm m g × IsVarying f × IsVarying g × (form_cmp f g ≢ Greater)

-- a monomial of a form modulo m
abbrev pub IsMono : ℕ → MonoTree → Type 0
IsMono m (var k) = Unit {0}
IsMono m (product f g) = IsForm m f × IsForm m g × IsVarying f × IsVarying g × (form_cmp f g ≢ Greater)
