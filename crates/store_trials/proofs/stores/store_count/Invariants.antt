use Rattle.std.proofs.Common.{◌≡◌, ◌≤◌}
use Rattle.store_trials.specs.declared.stores.TheConstants.{MAX_LISTED}
use Rattle.store_trials.specs.StoreLists.{store_count}
use Rattle.store_trials.proofs.stores.store_count.Given as goal

-- the number of stores over the variables so far
abbrev pub invariant-loop : goal.invariant-loop
invariant-loop l = record { number : l.count ≡ store_count l.numbers l.counter; limit : l.count ≤ MAX_LISTED }
