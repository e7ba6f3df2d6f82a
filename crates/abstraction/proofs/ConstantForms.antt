-- Constant forms and others.
use Rattle.std.proofs.Common.{◌≡◌, ℕ, ◌<◌, List, [], ◌∷◌, length, None, refl, arith}
use Rattle.linear_forms.specs.Forms.{var, product, TermTree, form_of}
use Rattle.abstraction.specs.Working.ConstantForms.{constant_value}

pub constant_value-varying : (xs : List TermTree) (c : ℕ) → 0 < length xs → constant_value (form_of xs c) ≡ None
constant_value-varying [] c h = absurd (omega arith)
constant_value-varying ((var k, t) ∷ xs) c h = refl
constant_value-varying ((product f g, t) ∷ xs) c h = refl
