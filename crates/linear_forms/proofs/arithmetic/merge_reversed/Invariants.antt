use Rattle.std.proofs.Common.{◌≡◌, ◌+◌, ◌++◌, reverse, length}
use Rattle.kat_model.specs.Stores.{modulus}
use Rattle.linear_forms.specs.Arithmetic.{merge}
use Rattle.linear_forms.proofs.arithmetic.merge_reversed.Given as goal

-- the terms written, and the merging of the remaining terms, are the whole merging
abbrev pub invariant-loop-right : goal.invariant-loop-right
invariant-loop-right l = l.to.items ++ merge (modulus l.width) (reverse l.left.items) (reverse l.right.items) ≡ l.initial.to.items ++ merge (modulus l.width) (reverse l.initial.left.items) (reverse l.initial.right.items)

abbrev pub decreases-loop-right : goal.decreases-loop-right
decreases-loop-right l = length l.left.items + length l.right.items
