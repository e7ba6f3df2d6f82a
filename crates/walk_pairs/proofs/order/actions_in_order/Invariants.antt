use Rattle.std.proofs.Common.{◌≡◌, ◌++◌, drop}
use Rattle.walk_pairs.proofs.ActionOrders.{acts_of}
use Rattle.walk_pairs.proofs.order.actions_in_order.Given as goal

abbrev pub invariant-loop-act : goal.invariant-loop-act
invariant-loop-act l = l.acts.items ++ acts_of (drop l.act-index l.act-items) ≡ acts_of l.act-items
