use Rattle.std.proofs.Common.{◌≡◌, ◌++◌, drop}
use Rattle.walk_pairs.specs.Items.{open_targets}
use Rattle.walk_up_to.proofs.cover.open_targets.Given as goal

abbrev pub invariant-loop-item : goal.invariant-loop-item
invariant-loop-item l = l.targets.items ++ open_targets l.ends.never l.ends.always l.side (drop l.item-index l.items) ≡ open_targets l.ends.never l.ends.always l.side l.items
