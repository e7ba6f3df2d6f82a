use Rattle.std.proofs.Common.{rules, ◌≡◌}
use Rattle.linear_forms.specs.Forms.{constant_of}
use Rattle.linear_forms.proofs.Terms.{constant_of-form_of}
use Rattle.linear_forms.proofs.arithmetic.sum.Goals as goal

pub returns : goal.returns
returns c =
    let left : constant_of c.args.left ≡ c.left.inside.constant = rw (← c.left.view_is) (constant_of-form_of c.left.inside.terms.items c.left.inside.constant) in
    let right : constant_of c.args.right ≡ c.right.inside.constant = rw (← c.right.view_is) (constant_of-form_of c.right.inside.terms.items c.right.inside.constant) in
    rw (left, right) (search rules)
