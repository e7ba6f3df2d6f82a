use Rattle.std.proofs.Common.{drop}
use Rattle.walk_up_to.specs.Cases.{AreConstant}
use Rattle.walk_up_to.proofs.splitting.any_test.Given as goal

-- if no guard of the remaining items depends on a test, no guard does
abbrev pub invariant-loop-item : goal.invariant-loop-item
invariant-loop-item l = AreConstant l.diagrams (drop l.item-index l.items) → AreConstant l.diagrams l.items
