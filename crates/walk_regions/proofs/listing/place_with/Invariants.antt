use Rattle.std.proofs.Common.{ℕ, take}
use Rattle.kat_model.specs.Members.{Has}
use Rattle.walk_regions.specs.Listings.{IsPlaceWith}
use Rattle.walk_regions.proofs.listing.place_with.Given as goal

-- no place so far is that of an entry with the sets, the level and the atom
abbrev pub invariant-loop-place : goal.invariant-loop-place
invariant-loop-place l = (k : ℕ) → Has (take l.place-index l.places) k → IsPlaceWith l.diagrams l.all l.pair l.atom k → ⊥
