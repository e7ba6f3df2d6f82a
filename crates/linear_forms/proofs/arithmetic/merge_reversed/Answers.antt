use Rattle.std.proofs.Common.{rules, reverse, inr}
use Rattle.kat_model.specs.Stores.{modulus}
use Rattle.linear_forms.proofs.Merging.{merge_at_end, none_reversed}
use Rattle.linear_forms.proofs.arithmetic.merge_reversed.Goals as goal

pub returns-else-not-is_empty : goal.returns-else-not-is_empty
returns-else-not-is_empty c =
    let none = none_reversed c.loop-right.right.items (search rules) in
    rw (merge_at_end (modulus c.args.width) (reverse c.loop-right.left.items) (reverse c.loop-right.right.items) (inr none))
    c.loop-right.invariant
