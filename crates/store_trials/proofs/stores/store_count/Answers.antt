use Rattle.std.proofs.Common.{arith}
use Rattle.store_trials.proofs.ListedStores.{count_more}
use Rattle.store_trials.proofs.stores.store_count.Goals as goal

pub loop-preserved : goal.loop-preserved
loop-preserved c = record { number = count_more c.args.numbers c.loop.counter c.loop.count _ c.loop.invariant.number (omega arith); limit = omega arith }
