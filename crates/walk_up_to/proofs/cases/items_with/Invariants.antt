use Rattle.std.proofs.Common.{take}
use Rattle.test_diagrams.specs.Functions.{KeepsFunctions}
use Rattle.walk_up_to.specs.Cases.{AreItemsWith}
use Rattle.walk_up_to.proofs.cases.items_with.Given as goal

abbrev pub invariant-loop-item : goal.invariant-loop-item
invariant-loop-item l = record {
  kept : KeepsFunctions l.fn.diagrams l.diagrams;
  gathered : AreItemsWith l.fn.diagrams l.diagrams (take l.item-index l.items) l.test l.value l.list.items;
}
