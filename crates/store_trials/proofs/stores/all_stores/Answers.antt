use Rattle.store_trials.proofs.StoreBounds.{joined_within, joined_few}
use Rattle.store_trials.proofs.stores.all_stores.Goals as goal

pub returns-clause-within : goal.returns-clause-within
returns-clause-within c =
    joined_within c.args.width c.args.numbers.now c.requires.within c.args.vars c.in_ok-stores.stores.items c.add_drawn.new.stores.items c.in_ok-stores.ensures c.in_ok-add_drawn.ensures

pub returns-clause-few : goal.returns-clause-few
returns-clause-few c =
    joined_few c.args.width c.args.numbers.now c.requires.within c.args.vars c.in_ok-stores.stores.items c.add_drawn.new.stores.items c.in_ok-stores.ensures c.in_ok-add_drawn.ensures
