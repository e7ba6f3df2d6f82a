-- The rank of a form is greater than the ranks of the forms in it.
use Rattle.std.specs.Prelude.{ℕ, ◌≤◌, ◌+◌, List, [], ◌∷◌}
use Rattle.std.proofs.Common.{arith}
use denote.Param.Weighed.{most}
use Rattle.linear_forms.specs.Forms.{TermTree, var, product, form_of}
use Rattle.linear_forms.specs.Ranks.{form_rank, mono_rank}
use Rattle.linear_forms.specs.Views.{mono_tree}
use Rattle.linear_forms.specs.declared.form.Mono.{Mono}
use Rattle.linear_forms.specs.declared.form.Mono.TheVariants.{Var, Product}
use Rattle.linear_forms.specs.declared.form.Form.TheDeep.{deep-Mono}

pub terms_fall : (xs : List TermTree) (c : ℕ) → most (λ x. mono_rank x.0 + 1) xs ≤ form_rank (form_of xs c)
terms_fall [] c = omega arith
terms_fall ((var k, t) ∷ xs) c = omega (arith, terms_fall xs c)
terms_fall ((product f g, t) ∷ xs) c = omega (arith, terms_fall xs c)

pub mono_falls : (p : Mono) → deep-Mono p ≤ mono_rank (mono_tree p)
mono_falls (Var k) = omega arith
mono_falls (Product f g) = omega arith
