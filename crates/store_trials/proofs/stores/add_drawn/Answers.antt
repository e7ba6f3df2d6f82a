use Rattle.store_trials.proofs.DrawnStores.{drawn_more, drawn_done}
use Rattle.store_trials.proofs.stores.add_drawn.Goals as goal

pub loop-preserved : goal.loop-preserved
loop-preserved c =
    drawn_more c.args.width c.args.numbers.now c.args.vars 10000 c.loop.counter c.loop.draws.state c.draw_store.new.draws.state c.loop.stores.items c.push.new.self.items _ c.in_ok-draw_store.field-0
    c.loop-test.true c.in_ok-push.ensures.items c.in_ok-draw_store.ensures.store c.in_ok-draw_store.ensures.state c.loop.invariant

pub returns : goal.returns
returns c = drawn_done c.args.width c.args.numbers.now c.args.vars 10000 c.loop.counter c.loop.draws.state c.loop.stores.items _ c.loop-test.false c.loop.invariant
