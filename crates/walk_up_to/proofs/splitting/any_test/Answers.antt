use Rattle.std.proofs.Common.{List, sym, subst, arith}
use Rattle.std.proofs.lemmas.List.{at_drop_all}
use Rattle.partial_derivs.proofs.Items.{has_item}
use Rattle.walk_pairs.specs.declared.items.Item.{Item}
use Rattle.walk_up_to.specs.Cases.{AreConstant}
use Rattle.walk_up_to.proofs.NextTests.{constant_next}
use Rattle.walk_up_to.proofs.splitting.any_test.Goals as goal

pub test_of-requires-clause-left : goal.test_of-requires-clause-left
test_of-requires-clause-left c = c.requires.lefts c.item-item.result (has_item c.args.items.now c.loop-item.item-index c.item-item.result c.loop-item-test.true c.item-item.is)

pub test_of-requires-clause-right : goal.test_of-requires-clause-right
test_of-requires-clause-right c = c.requires.rights c.item-item.result (has_item c.args.items.now c.loop-item.item-index c.item-item.result c.loop-item-test.true c.item-item.is)

pub returns-in-Some : goal.returns-in-Some
returns-in-Some c = record {
  item = c.item-item.result;
  member = has_item c.args.items.now c.loop-item.item-index c.item-item.result c.loop-item-test.true c.item-item.is;
  depends = c.in-Some.ensures;
}

pub loop-item-preserved : goal.loop-item-preserved
loop-item-preserved c = constant_next c.args.diagrams.now c.args.items.now c.loop-item.item-index c.item-item.result c.loop-item-test.true c.item-item.is c.in_default.ensures c.loop-item.invariant

pub loop-item-init : goal.loop-item-init
loop-item-init c h = h

pub returns : goal.returns
returns c = c.loop-item.invariant (subst (AreConstant c.args.diagrams.now) (sym (at_drop_all (λ (l : List Item). l) c.args.items.now c.loop-item.item-index (omega arith))) (λ i h. absurd h))
