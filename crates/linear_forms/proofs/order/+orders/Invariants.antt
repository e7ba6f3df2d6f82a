use Rattle.std.proofs.Common.{◌≡◌, drop}
use Rattle.linear_forms.proofs.Comparing.{terms_cmp}
use Rattle.linear_forms.proofs.order.+orders.Given as goal

-- the remaining terms decide
abbrev pub invariant-cmp_form-loop-i : goal.invariant-cmp_form-loop-i
invariant-cmp_form-loop-i l =
    terms_cmp l.left-inside.terms.items l.left-inside.constant l.right-inside.terms.items l.right-inside.constant
    ≡ terms_cmp (drop l.i l.left-inside.terms.items) l.left-inside.constant (drop l.i l.right-inside.terms.items) l.right-inside.constant
