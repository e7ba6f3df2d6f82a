use Rattle.std.proofs.Common.{rules, ◌<◌, ◌⊎◌, inl, inr, length}
use Rattle.linear_forms.specs.Forms.{terms_of}
use Rattle.linear_forms.proofs.Terms.{terms_of-form_of}
use Rattle.linear_forms.proofs.Varying.{less_form-varying}
use Rattle.linear_forms.proofs.comparison.less_cond.Goals as goal
use Rattle.linear_forms.proofs.comparison.less_cond.Goals.{else-is_empty-via-then-is_empty+else-is_empty-2, else-is_empty-via-else-is_empty}

pub returns : goal.returns
returns c =
    let some : (0 < length (terms_of c.args.left)) ⊎ (0 < length (terms_of c.args.right)) =
    elim c.else-is_empty.branch [
      | else-is_empty-via-then-is_empty+else-is_empty-2 w ↦ inr (rw (← w.right.view_is, terms_of-form_of w.right.inside.terms.items w.right.inside.constant) (search rules))
      | else-is_empty-via-else-is_empty w ↦ inl (rw (← c.left.view_is, terms_of-form_of c.left.inside.terms.items c.left.inside.constant) (search rules))
    ] in
    rw (less_form-varying _ c.args.left c.args.right some) (search rules)
