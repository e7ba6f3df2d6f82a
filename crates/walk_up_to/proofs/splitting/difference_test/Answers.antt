use Rattle.partial_derivs.proofs.Items.{has_item}
use Rattle.walk_up_to.proofs.splitting.difference_test.Goals as goal

pub test_of-requires-clause-left : goal.test_of-requires-clause-left
test_of-requires-clause-left c = c.requires.lefts c.item-item.result (has_item c.args.items.now c.loop-item.item-index c.item-item.result c.loop-item-test.true c.item-item.is)

pub test_of-requires-clause-right : goal.test_of-requires-clause-right
test_of-requires-clause-right c = c.requires.rights c.item-item.result (has_item c.args.items.now c.loop-item.item-index c.item-item.result c.loop-item-test.true c.item-item.is)

pub returns-in-Some : goal.returns-in-Some
returns-in-Some c = record {
  item = c.item-item.result;
  member = has_item c.args.items.now c.loop-item.item-index c.item-item.result c.loop-item-test.true c.item-item.is;
  depends = c.in-Some.ensures;
}
