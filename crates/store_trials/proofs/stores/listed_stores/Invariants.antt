use Rattle.std.proofs.Common.{◌≡◌, map}
use Rattle.std.specs.List.{range_with_len}
use Rattle.store_trials.specs.StoreLists.{nth_store}
use Rattle.store_trials.proofs.stores.listed_stores.Given as goal

-- the stores so far
abbrev pub invariant-loop-i : goal.invariant-loop-i
invariant-loop-i l = l.stores.items ≡ map (nth_store l.numbers l.vars) (range_with_len 0 l.i)
