use Rattle.store_trials.proofs.DrawnStores.{digit_drawn, digits_drawn, state_more, state_done}
use Rattle.store_trials.proofs.draws.Draws.digits.Goals as goal

pub loop-preserved : goal.loop-preserved
loop-preserved c = record {
  number =
      digit_drawn 5 c.loop.counter c.args.width c.loop.self.state c.below-digit.new.self.state c.loop.total c.mul.result c.below-digit.result c.add-total.result _
      c.loop-test.true c.below-digit.ensures.state c.mul.ensures c.below-digit.ensures.number c.add-total.ensures c.loop.invariant.number;
  state = state_more 5 c.loop.counter c.loop.self.state c.below-digit.new.self.state _ c.loop-test.true c.below-digit.ensures.state c.loop.invariant.state;
}

pub returns : goal.returns
returns c = record {
  number = digits_drawn 5 c.loop.counter c.args.width c.loop.self.state c.loop.total _ c.loop-test.false c.loop.invariant.number;
  state = state_done 5 c.loop.counter c.loop.self.state _ c.loop-test.false c.loop.invariant.state;
}
