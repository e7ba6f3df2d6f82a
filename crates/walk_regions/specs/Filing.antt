-- The pairs of a walk, and lists of their places under keys of their sets.
use Rattle.std.specs.Prelude.{◌≡◌, ◌⊎◌, ◌≤◌, ◌+◌, ◌*◌, ◌%◌, ℕ, List, [], ◌∷◌, length, slice_get, slice_index_or, Some}
use Rattle.kat_model.specs.Members.{Has}
use Rattle.walk_regions.specs.Entries.{EntryParts}

-- the pairs in order
pub record EntryListParts : Type 0 where
  pub items : List EntryParts

-- the key of a list of ids that follow ids with the key
abbrev pub key_from : ℕ → List ℕ → ℕ
key_from key [] = key
key_from key (i ∷ ids) = key_from ((key * 31 + i % 4096) % 4096) ids

-- the key of two sets
abbrev pub key_of : List ℕ → List ℕ → ℕ
key_of left right = key_from (key_from 0 left) right

-- the new lists have all members of the old ones
pub record KeepsLists (old new : List (List ℕ)) : Type 0 where
  pub longer : length old ≤ length new
  pub members : (key k : ℕ) → Has (slice_index_or old key []) k → Has (slice_index_or new key []) k

-- the place of each pair is in the list under the key of its sets
abbrev pub AreFiled : List EntryParts → List (List ℕ) → Type 0
AreFiled es lists = (k : ℕ) (e : EntryParts) → slice_get es k ≡ Some e → Has (slice_index_or lists (key_of e.left e.right) []) k

-- the pairs found are pairs of the list, among them all that have these sets
pub record AreAlike (es : List EntryParts) (left right : List ℕ) (found : List EntryParts) : Type 0 where
  pub all : (e : EntryParts) → Has es e → e.left ≡ left → e.right ≡ right → Has found e
  pub each : (e : EntryParts) → Has found e → Has es e

-- the new list has the old pairs, the pair at the place k if it has these sets, and no others
pub record AddsAlike (es : List EntryParts) (k : ℕ) (left right : List ℕ) (old new : List EntryParts) : Type 0 where
  pub kept : (e : EntryParts) → Has old e → Has new e
  pub added : (e : EntryParts) → slice_get es k ≡ Some e → e.left ≡ left → e.right ≡ right → Has new e
  pub each : (e : EntryParts) → Has new e → Has old e ⊎ Has es e
