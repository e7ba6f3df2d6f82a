use Rattle.std.proofs.Common.{refl}
use Rattle.store_trials.proofs.ListedStores.{digit_more, digits_done}
use Rattle.store_trials.proofs.stores.nth_store.Goals as goal

pub loop-preserved : goal.loop-preserved
loop-preserved c =
    digit_more c.args.numbers.now c.args.vars c.loop.counter c.loop.rest _ c.loop.values.items c.push.new.self.items _ c.loop-test.true c.in_ok-push.ensures.items refl c.loop.invariant

pub returns : goal.returns
returns c = digits_done c.args.numbers.now c.args.vars c.loop.counter c.loop.rest c.loop.values.items _ c.loop-test.false c.loop.invariant
