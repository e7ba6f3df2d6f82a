use Rattle.std.proofs.Common.{◌≡◌, ◌++◌, ◌-◌}
use Rattle.store_trials.specs.StoreLists.{nth_store}
use Rattle.store_trials.proofs.stores.nth_store.Given as goal

-- the digits so far, and the remaining ones
abbrev pub invariant-loop : goal.invariant-loop
invariant-loop l = l.values.items ++ nth_store l.numbers (l.vars - l.counter) l.rest ≡ nth_store l.numbers l.vars l.i
