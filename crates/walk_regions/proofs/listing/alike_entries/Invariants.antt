use Rattle.std.proofs.Common.{◌≡◌, ℕ, Some, slice_get, take}
use Rattle.kat_model.specs.Members.{Has}
use Rattle.walk_regions.specs.Entries.{EntryParts}
use Rattle.walk_regions.proofs.listing.alike_entries.Given as goal

-- the pairs with these sets at the places so far are found
abbrev pub invariant-loop-place : goal.invariant-loop-place
invariant-loop-place l = record {
  all : (k : ℕ) (e : EntryParts) → Has (take l.place-index l.places) k → slice_get l.all k ≡ Some e → e.left ≡ l.left → e.right ≡ l.right → Has l.alike.items e;
  each : (e : EntryParts) → Has l.alike.items e → Has l.all e;
}
