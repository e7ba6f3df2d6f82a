use Rattle.partial_derivs.proofs.Items.{has_item}
use Rattle.walk_up_to.proofs.NextTests.{next_of}
use Rattle.walk_up_to.proofs.splitting.universal_test.Goals as goal

pub test_of-requires-clause-left : goal.test_of-requires-clause-left
test_of-requires-clause-left c = c.requires.lefts c.item-item.result (has_item c.args.items.now c.loop-item.item-index c.item-item.result c.loop-item-test.true c.item-item.is)

pub test_of-requires-clause-right : goal.test_of-requires-clause-right
test_of-requires-clause-right c = c.requires.rights c.item-item.result (has_item c.args.items.now c.loop-item.item-index c.item-item.result c.loop-item-test.true c.item-item.is)

pub returns-then-eq : goal.returns-then-eq
returns-then-eq c =
    next_of c.args.diagrams.now c.args.items.now c.item-item.result (has_item c.args.items.now c.loop-item.item-index c.item-item.result c.loop-item-test.true c.item-item.is) c.test_of.result c.test_of.ensures
