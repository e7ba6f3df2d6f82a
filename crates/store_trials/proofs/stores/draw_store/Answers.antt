use Rattle.store_trials.proofs.DrawnStores.{value_more, values_done, place_more, place_done}
use Rattle.store_trials.proofs.stores.draw_store.Goals as goal

pub loop-preserved : goal.loop-preserved
loop-preserved c = record {
  values =
      value_more c.args.width c.args.numbers.now c.args.vars c.loop.counter c.loop.draws.state c.value.new.self.state c.value.result c.loop.values.items c.push.new.self.items _
      c.loop-test.true c.in_ok-push.ensures.items c.value.ensures.number c.value.ensures.state c.loop.invariant.values;
  state = place_more c.args.width c.args.numbers.now c.args.vars c.loop.counter c.loop.draws.state c.value.new.self.state _ c.loop-test.true c.value.ensures.state c.loop.invariant.state;
}

pub returns : goal.returns
returns c = record {
  store = values_done c.args.width c.args.numbers.now c.args.vars c.loop.counter c.loop.draws.state c.loop.values.items _ c.loop-test.false c.loop.invariant.values;
  state = place_done c.args.width c.args.numbers.now c.args.vars c.loop.counter c.loop.draws.state _ c.loop-test.false c.loop.invariant.state;
}
