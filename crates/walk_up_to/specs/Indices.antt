-- Indices of listed pairs. Each nonempty set of a pair is indexed under one of its members.
use Rattle.std.specs.Prelude.{◌≡◌, ◌⊎◌, ◌≤◌, ℕ, List, [], length, slice_get, slice_index_or, Option, Some, None}
use Rattle.walk_pairs.specs.declared.items.Side.{Side}
use Rattle.walk_pairs.specs.declared.items.Side.TheVariants.{Left, Right}
use Rattle.kat_model.specs.Members.{Has}
use Rattle.walk_up_to.specs.declared.pair.PairSide.{PairSide}
use Rattle.walk_up_to.specs.Listings.{IdEntry}

-- the empty sets, and for each term the sets that are indexed under it
pub record IndexParts : Type 0 where
  pub apart : List PairSide
  pub under : List (List PairSide)

-- one set of the pair at the place, and the witness
abbrev pub pair_side_at : ℕ → Side → Option ℕ → PairSide
pair_side_at k side w = record { place = k; side = side; witness = w }

-- the witness, if there is one, is a member
abbrev pub IsWitness : Option ℕ → List ℕ → Type 0
IsWitness None ids = Unit {0}
IsWitness (Some w) ids = Has ids w

-- the set with these members, on this side of the pair at the place, is indexed under one of them with a member as
-- witness; an empty set is in `apart`
abbrev pub IsListedUnder : IndexParts → List ℕ → ℕ → Side → Type 0
IsListedUnder x ids k side =
    ((ids ≡ []) × Has x.apart (pair_side_at k side None))
    ⊎ ((t : ℕ) × (w : ℕ) × Has ids t × Has ids w × Has (slice_index_or x.under t []) (pair_side_at k side (Some w)))

-- the new lists have all members of the old ones
pub record KeepsLists (old new : List (List PairSide)) : Type 0 where
  pub longer : length old ≤ length new
  pub members : (t : ℕ) (s : PairSide) → Has (slice_index_or old t []) s → Has (slice_index_or new t []) s

-- the new index has all sets of the old one
pub record KeepsPlaces (old new : IndexParts) : Type 0 where
  pub apart : (s : PairSide) → Has old.apart s → Has new.apart s
  pub under : (t : ℕ) (s : PairSide) → Has (slice_index_or old.under t []) s → Has (slice_index_or new.under t []) s

-- both sets of each pair are in the index
abbrev pub AreIndexed : IndexParts → List IdEntry → Type 0
AreIndexed x es = (k : ℕ) (e : IdEntry) → slice_get es k ≡ Some e → IsListedUnder x e.left k Left × IsListedUnder x e.right k Right
