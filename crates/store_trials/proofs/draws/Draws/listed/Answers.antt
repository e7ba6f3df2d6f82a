use Rattle.store_trials.proofs.DrawnStores.{after_four}
use Rattle.store_trials.proofs.draws.Draws.listed.Goals as goal

pub returns-clause-state : goal.returns-clause-state
returns-clause-state c = after_four c.args.self.now.state c.below-place.new.self.state c.pass.new.self.state c.below-place.ensures.state c.pass.ensures
