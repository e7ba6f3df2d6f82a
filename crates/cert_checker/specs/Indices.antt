-- Indices of listed pairs: the place of a pair is listed under the last member of each of its sets.
use Rattle.std.specs.Prelude.{◌≡◌, ◌<◌, ◌-◌, ℕ, List, [], length, slice_get, Option, Some, unwrap_or}
use Rattle.std.specs.Option.{option_map_or}
use Rattle.std.specs.Map.{lookup}
use Rattle.std.specs.BTreeMap.{is_at}
use Rattle.std.specs.Ordering.{nat_cmp}
use Rattle.kat_model.specs.Members.{Has}
use Rattle.certificate.specs.PairParts.{PairParts}

-- the places of pairs with an empty set, and the places under terms
pub record IndexParts : Type 0 where
  pub apart : List ℕ
  pub under : List (ℕ × List ℕ)

-- the places that the table has for the term
abbrev pub listed_under : List (ℕ × List ℕ) → ℕ → List ℕ
listed_under under k = unwrap_or (lookup (is_at (nat_cmp k)) under) []

-- the places under the term
abbrev pub places_under : IndexParts → ℕ → List ℕ
places_under x k = listed_under x.under k

-- the places under the term, or without a term the places of pairs with an empty set
abbrev pub places_at : IndexParts → Option ℕ → List ℕ
places_at x last = option_map_or (places_under x) last x.apart

-- a list of places that contains those of all pairs with this set
abbrev pub places_by : IndexParts → List ℕ → List ℕ
places_by x ks = places_at x (slice_get ks (length ks - 1))

-- the new index contains all places of the old one
pub record KeepsPlaces (old new : IndexParts) : Type 0 where
  pub apart : (k : ℕ) → Has old.apart k → Has new.apart k
  pub under : (term k : ℕ) → Has (places_under old term) k → Has (places_under new term) k

-- the first n pairs, and all pairs, are listed under both their sets
abbrev pub AreIndexedTo : ℕ → IndexParts → List PairParts → Type 0
AreIndexedTo n x ps = (k : ℕ) (p : PairParts) → k < n → slice_get ps k ≡ Some p → Has (places_by x p.left) k × Has (places_by x p.right) k

abbrev pub AreIndexed : IndexParts → List PairParts → Type 0
AreIndexed x ps = (k : ℕ) (p : PairParts) → slice_get ps k ≡ Some p → Has (places_by x p.left) k × Has (places_by x p.right) k
