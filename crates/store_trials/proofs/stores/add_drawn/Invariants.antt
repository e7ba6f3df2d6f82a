use Rattle.std.proofs.Common.{◌≡◌, ◌++◌, ◌-◌}
use Rattle.store_trials.specs.declared.stores.TheConstants.{DRAWN_STORES}
use Rattle.store_trials.specs.StoreLists.{drawn_stores}
use Rattle.store_trials.proofs.stores.add_drawn.Given as goal

-- the stores so far, and those that are drawn from here
abbrev pub invariant-loop : goal.invariant-loop
invariant-loop l =
    l.stores.items ++ drawn_stores l.width l.numbers l.vars (DRAWN_STORES - l.counter) l.draws.state
    ≡ l.initial.stores.items ++ drawn_stores l.width l.numbers l.vars DRAWN_STORES 0
