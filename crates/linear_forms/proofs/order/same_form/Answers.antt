use Rattle.std.proofs.Common.{rules}
use Rattle.linear_forms.proofs.SameOrder.{same_tree, equal_order}
use Rattle.linear_forms.proofs.TotalOrder.{form_itself}
use Rattle.linear_forms.proofs.order.same_form.Goals as goal

pub returns : goal.returns
returns c = (
  (λ h. same_tree c.args.left.now c.args.right.now (rw (← c.cmp_form.ensures) (equal_order c.cmp_form.result c.eq.result c.eq.ensures h))),
  (λ e. rw (c.eq.ensures, c.cmp_form.ensures, e, form_itself c.args.right.now) (search rules)),
)
