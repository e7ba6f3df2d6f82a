use Rattle.std.proofs.Common.{rules, ◌≡◌, ◌<◌, length}
use Rattle.kat_model.specs.Stores.{modulus}
use Rattle.linear_forms.specs.Arithmetic.{form_product, multiple, ordered_product}
use Rattle.linear_forms.proofs.Terms.{product_by_constant, product_of_both}
use Rattle.linear_forms.proofs.arithmetic.product.Goals as goal

pub returns-then-is_empty-2 : goal.returns-then-is_empty-2
returns-then-is_empty-2 c =
    let some : 0 < length c.left.inside.terms.items = search rules in
    let none : length c.right.inside.terms.items ≡ 0 = search rules in
    let e : form_product (modulus c.args.width) c.args.left c.args.right ≡ multiple (modulus c.args.width) c.right.inside.constant c.args.left =
    rw (← c.left.view_is, ← c.right.view_is) (product_by_constant (modulus c.args.width) c.left.inside.terms.items c.left.inside.constant c.right.inside.terms.items c.right.inside.constant some none) in
    rw (e) c.multiple-then-is_empty-2.ensures

pub returns : goal.returns
returns c =
    let some : 0 < length c.left.inside.terms.items = search rules in
    let more : 0 < length c.right.inside.terms.items = search rules in
    let e : form_product (modulus c.args.width) c.args.left c.args.right ≡ ordered_product c.args.left c.args.right =
    rw (← c.left.view_is, ← c.right.view_is) (product_of_both (modulus c.args.width) c.left.inside.terms.items c.left.inside.constant c.right.inside.terms.items c.right.inside.constant some more) in
    rw (e) c.opaque_product.ensures
