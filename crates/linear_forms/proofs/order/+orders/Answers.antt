use Rattle.std.proofs.Common.{rules}
use Rattle.linear_forms.proofs.Comparing.{form_cmp-form_of, at_end, next_terms, differs}
use Rattle.linear_forms.proofs.order.+orders.Goals as goal

pub cmp_form-returns-then-ne : goal.cmp_form-returns-then-ne
cmp_form-returns-then-ne t c = rw (← c.left.view_is, ← c.right.view_is, form_cmp-form_of c.left.inside.terms.items c.left.inside.constant c.right.inside.terms.items c.right.inside.constant, c.loop-i.invariant)
    (rw (
      next_terms c.loop-i.i c.left.inside.terms.items c.left.inside.constant c.right.inside.terms.items c.right.inside.constant c.index-x.result.now c.index-y.result.now
          (search rules) (search rules) c.index-x.ensures c.index-y.ensures,
      ← c.x.view_is,
      ← c.y.view_is,
      ← c.cmp_mono.ensures,
      ← c.cmp.ensures,
      c.then-order.ensures,
    )
    (differs c.cmp_mono.result c.cmp.result _ (rw (← c.then-order.ensures) c.if-ne.ensures)))

pub cmp_form-returns : goal.cmp_form-returns
cmp_form-returns t c = rw (
  ← c.left.view_is,
  ← c.right.view_is,
  form_cmp-form_of c.left.inside.terms.items c.left.inside.constant c.right.inside.terms.items c.right.inside.constant,
  c.loop-i.invariant,
  at_end c.loop-i.i c.left.inside.terms.items c.left.inside.constant c.right.inside.terms.items c.right.inside.constant (search rules) (search rules) (search rules),
  c.then.ensures,
  c.cmp-2.ensures,
  c.cmp-3.ensures,
  c.len-3.ensures,
  c.len-4.ensures,
) (search rules)
