use Rattle.std.proofs.Common.{subst, ◌≡◌, Equal}
use Rattle.flow_forms.specs.Order.{form_cmp}
use Rattle.flow_forms.proofs.SameForms.{same_form, own_form}
use Rattle.flow_forms.proofs.laws.equal_forms_are_one.Goals as goal

pub returns : goal.returns
returns c f g = (same_form f g, λ e. subst (λ h. form_cmp f h ≡ Equal) e (own_form f))
