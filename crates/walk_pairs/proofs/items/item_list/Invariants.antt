use Rattle.std.proofs.Common.{◌≡◌, ◌++◌}
use Rattle.walk_pairs.specs.Items.{items_in}
use Rattle.walk_pairs.proofs.items.item_list.Given as goal

abbrev pub invariant-loop-item : goal.invariant-loop-item
invariant-loop-item l = l.list.items ++ items_in l.item-iterator ≡ items_in l.items.entries
