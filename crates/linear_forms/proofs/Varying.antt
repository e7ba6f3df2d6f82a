-- The normal forms of comparisons, if a form is not constant.
use Rattle.std.proofs.Common.{ℕ, ◌≡◌, ◌<◌, List, [], ◌∷◌, length, refl, arith, ◌⊎◌, inl, inr}
use Rattle.linear_forms.specs.Forms.{FormTree, constant, var_term, product_term, var, product, TermTree, form_of, terms_of}
use Rattle.linear_forms.specs.Comparisons.{canonical, zero_form, varying_less_form, less_form}
use Rattle.linear_forms.specs.declared.comparison.Atomic.TheVariants.{Zero}
use Rattle.linear_forms.specs.declared.comparison.CondForm.TheVariants.{Pos}

pub zero_form-varying : (m : ℕ) (xs : List TermTree) (c : ℕ) → 0 < length xs → zero_form m (form_of xs c) ≡ Pos (Zero (canonical m (form_of xs c)))
zero_form-varying m [] c p = absurd (omega (arith, p))
zero_form-varying m ((var k, t) ∷ xs) c p = refl
zero_form-varying m ((product f g, t) ∷ xs) c p = refl

pub less_form-varying : (m : ℕ) (f g : FormTree) → (0 < length (terms_of f)) ⊎ (0 < length (terms_of g)) → less_form m f g ≡ varying_less_form m f g
less_form-varying m (constant c) (constant d) (inl p) = absurd (omega (arith, p))
less_form-varying m (constant c) (constant d) (inr p) = absurd (omega (arith, p))
less_form-varying m (constant c) (var_term k t rest) p = refl
less_form-varying m (constant c) (product_term f g t rest) p = refl
less_form-varying m (var_term k t rest) h p = refl
less_form-varying m (product_term e f t rest) h p = refl
