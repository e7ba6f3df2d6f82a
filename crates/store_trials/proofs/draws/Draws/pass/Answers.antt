use Rattle.store_trials.proofs.DrawnStores.{state_more, state_done}
use Rattle.store_trials.proofs.draws.Draws.pass.Goals as goal

pub loop-preserved : goal.loop-preserved
loop-preserved c = state_more c.args.count c.loop.counter c.loop.self.state c.below.new.self.state _ c.loop-test.true c.below.ensures.state c.loop.invariant

pub returns : goal.returns
returns c = state_done c.args.count c.loop.counter c.loop.self.state _ c.loop-test.false c.loop.invariant
