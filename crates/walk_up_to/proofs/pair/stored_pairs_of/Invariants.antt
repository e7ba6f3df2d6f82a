use Rattle.std.proofs.Common.{◌≡◌, map, take}
use Rattle.walk_up_to.specs.Listings.{untested_of}
use Rattle.walk_up_to.proofs.pair.stored_pairs_of.Given as goal

-- the pairs so far
abbrev pub invariant-loop-pair : goal.invariant-loop-pair
invariant-loop-pair l = l.list.items ≡ map untested_of (take l.pair-index l.pairs)
