use Rattle.std.proofs.Common.{◌≡◌, ◌≤◌, ◌++◌, drop, length}
use Rattle.store_trials.specs.Following.{followers}
use Rattle.store_trials.proofs.followed.following.Given as goal

-- the stores so far, and those of the remaining ones
abbrev pub invariant-loop-store : goal.invariant-loop-store
invariant-loop-store l = record {
  stores : l.followers.items ++ followers l.shown l.string (drop l.store-index l.stores) ≡ followers l.shown l.string l.stores;
  fewer : length l.followers.items ≤ l.store-index;
}
