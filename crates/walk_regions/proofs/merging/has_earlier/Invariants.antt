use Rattle.std.proofs.Common.{ℕ, take}
use Rattle.kat_model.specs.Members.{Has}
use Rattle.walk_regions.specs.Merging.{IsEarlierAlike}
use Rattle.walk_regions.proofs.merging.has_earlier.Given as goal

-- no place so far is that of an earlier entry with the sets
abbrev pub invariant-loop-place : goal.invariant-loop-place
invariant-loop-place l = (k : ℕ) → Has (take l.place-index l.places) k → IsEarlierAlike l.all k l.own l.entry → ⊥
