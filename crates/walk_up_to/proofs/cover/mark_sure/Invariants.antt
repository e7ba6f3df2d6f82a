use Rattle.std.proofs.Common.{◌≡◌, drop}
use Rattle.walk_pairs.specs.Items.{targets_under}
use Rattle.walk_up_to.specs.Marks.{with_marks}
use Rattle.walk_up_to.proofs.cover.mark_sure.Given as goal

abbrev pub invariant-loop-item : goal.invariant-loop-item
invariant-loop-item l = with_marks l.marked.marks (targets_under l.ends.always l.side (drop l.item-index l.items)) ≡ with_marks l.initial.marked.marks (targets_under l.ends.always l.side l.items)
