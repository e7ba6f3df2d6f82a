use Rattle.store_trials.proofs.ListedStores.{store_more}
use Rattle.store_trials.proofs.stores.listed_stores.Goals as goal

pub loop-i-preserved : goal.loop-i-preserved
loop-i-preserved c =
    store_more c.args.numbers.now c.args.vars c.loop-i.i c.loop-i.stores.items c.push.new.self.items c.in_ok-nth_store.field-0 c.in_ok-push.ensures.items c.in_ok-nth_store.ensures c.loop-i.invariant
