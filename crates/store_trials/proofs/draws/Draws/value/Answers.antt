use Rattle.store_trials.proofs.DrawnStores.{after_five}
use Rattle.store_trials.proofs.draws.Draws.value.Goals as goal

pub returns-then-below-eq0-clause-state : goal.returns-then-below-eq0-clause-state
returns-then-below-eq0-clause-state c = after_five c.args.self.now.state c.below.new.self.state c.listed.new.self.state c.below.ensures.state c.listed.ensures.state

pub returns-clause-state : goal.returns-clause-state
returns-clause-state c = after_five c.args.self.now.state c.below.new.self.state c.digits.new.self.state c.below.ensures.state c.digits.ensures.state
