use Rattle.linear_forms.proofs.SameOrder.{same_tree, same_mono}
use Rattle.linear_forms.proofs.TotalOrder.{form_total, mono_total, form_itself, mono_itself}
use Rattle.linear_forms.proofs.laws.forms_are_ordered.Goals as goal

pub returns : goal.returns
returns c = record {
  monos = mono_total;
  forms = form_total;
  same_mono = λ p q. (same_mono p q, λ e. rw (e) (mono_itself q));
  same_form = λ f g. (same_tree f g, λ e. rw (e) (form_itself g));
}
