use Rattle.std.proofs.Common.{rules}
use Rattle.linear_forms.proofs.SameOrder.{equal_order}
use Rattle.flow_forms.specs.Forms.{form_tree}
use Rattle.flow_forms.proofs.SameForms.{same_form, own_form}
use Rattle.flow_forms.proofs.order.same_form.Goals as goal

pub returns : goal.returns
returns c = (
  (λ h. same_form (form_tree c.args.left.now) (form_tree c.args.right.now) (rw (← c.cmp_form.ensures) (equal_order c.cmp_form.result c.eq.result c.eq.ensures h))),
  (λ e. rw (c.eq.ensures, c.cmp_form.ensures, e, own_form (form_tree c.args.right.now)) (search rules)),
)
