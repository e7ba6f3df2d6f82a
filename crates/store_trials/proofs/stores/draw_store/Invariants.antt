use Rattle.std.proofs.Common.{◌≡◌, ◌++◌, ◌-◌}
use Rattle.store_trials.specs.StoreLists.{drawn_store, after_store}
use Rattle.store_trials.proofs.stores.draw_store.Given as goal

-- the numbers so far, and those that are drawn from here
abbrev pub invariant-loop : goal.invariant-loop
invariant-loop l = record {
  values : l.values.items ++ drawn_store l.width l.numbers (l.vars - l.counter) l.draws.state ≡ drawn_store l.width l.numbers l.vars l.initial.draws.state;
  state : after_store (l.vars - l.counter) l.draws.state ≡ after_store l.vars l.initial.draws.state;
}
