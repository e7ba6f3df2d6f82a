use Rattle.std.proofs.Common.{◌≡◌, ◌++◌, drop}
use Rattle.walk_pairs.specs.Items.{targets_under}
use Rattle.walk_up_to.proofs.cover.sure_targets.Given as goal

abbrev pub invariant-loop-item : goal.invariant-loop-item
invariant-loop-item l = l.targets.items ++ targets_under l.ends.always l.side (drop l.item-index l.items) ≡ targets_under l.ends.always l.side l.items
