use Rattle.std.proofs.Common.{◌⊎◌, ◌↔◌, ℕ, drop}
use Rattle.kat_model.specs.Members.{Has}
use Rattle.walk_pairs.specs.Needed.{members_of}
use Rattle.walk_pairs.proofs.needed.members.Given as goal

-- the members of all pairs are those collected so far and those of the remaining pairs
abbrev pub invariant-loop-pair : goal.invariant-loop-pair
invariant-loop-pair l = (x : ℕ) → Has (members_of l.pairs) x ↔ (Has l.set.keys x ⊎ Has (members_of (drop l.pair-index l.pairs)) x)
