-- Sets of terms as marks, one for each id of a store, and their saturation by pairs of sets of ids.
use Rattle.std.specs.Prelude.{◌≡◌, ◌≤◌, ◌<◌, ◌+◌, zero, suc, ℕ, Bool, true, false, nat_le, ◌||◌, if◌then◌else◌, List, [], ◌∷◌, length, slice_get, slice_index_or, slice_set, replicate, Option, Some}
use Rattle.std.specs.Option.{option_map_or}
use Rattle.std.specs.List.{list_all}
use Rattle.kat_model.specs.Members.{Has}
use Rattle.walk_pairs.specs.declared.items.Side.{Side}
use Rattle.walk_up_to.specs.declared.pair.PairSide.{PairSide}
use Rattle.walk_up_to.specs.Listings.{IdEntry, set_on, set_across}
use Rattle.walk_up_to.specs.Indices.{IndexParts, IsWitness}

-- whether each of the ids is marked
abbrev pub are_marked : List Bool → List ℕ → Bool
are_marked marks ids = list_all (λ i. slice_index_or marks i false) ids

-- the marks, with those of the ids set
abbrev pub with_marks : List Bool → List ℕ → List Bool
with_marks marks [] = marks
with_marks marks (i ∷ ids) = with_marks (slice_set marks i true) ids

-- the marks, with those of the ids removed
abbrev pub without_marks : List Bool → List ℕ → List Bool
without_marks marks [] = marks
without_marks marks (i ∷ ids) = without_marks (slice_set marks i false) ids

-- the marks, with those of the pair's other set added if this set is marked
abbrev pub with_side_marked : Side → List Bool → IdEntry → List Bool
with_side_marked side marks e = if are_marked marks (set_on side e) then with_marks marks (set_across side e) else marks

-- the marks, with those of both sides of the pair added if one side is marked
abbrev pub with_pair_marked : List Bool → IdEntry → List Bool
with_pair_marked marks e = if are_marked marks e.left then with_marks marks e.right else (if are_marked marks e.right then with_marks marks e.left else marks)

-- the marks after one round over the pairs, and after n rounds
abbrev pub round_marked : List IdEntry → List Bool → List Bool
round_marked [] marks = marks
round_marked (e ∷ es) marks = round_marked es (with_pair_marked marks e)

abbrev pub rounds_marked : ℕ → List IdEntry → List Bool → List Bool
rounds_marked zero es marks = marks
rounds_marked (suc n) es marks = rounds_marked n es (round_marked es marks)

-- the saturation of the marks of only these ids, for n terms
abbrev pub saturated_marks : ℕ → List IdEntry → List ℕ → List Bool
saturated_marks n es ids = rounds_marked (length es) es (with_marks (replicate n false) ids)

-- whether the universal term is marked, or all targets are
abbrev pub are_reached : Option ℕ → List ℕ → List Bool → Bool
are_reached universal targets marks = option_map_or (λ u. slice_index_or marks u false) universal false || are_marked marks targets

-- ---- sets that grow pair by pair

-- each mark remains in `more`
abbrev pub Stays : List Bool → List Bool → Type 0
Stays marks more = (j : ℕ) → slice_index_or marks j false ≡ true → slice_index_or more j false ≡ true

-- no pair adds a mark
abbrev pub AreClosed : List IdEntry → List Bool → Type 0
AreClosed es marks = (e : IdEntry) → Has es e → with_pair_marked marks e ≡ marks

-- this set of a pair adds no mark
abbrev pub IsClosedAt : List IdEntry → List Bool → PairSide → Type 0
IsClosedAt es marks s = (e : IdEntry) → slice_get es s.place ≡ Some e → IsWitness s.witness (set_on s.side e) → with_side_marked s.side marks e ≡ marks

-- the new marks contain the old ones and are within their closure under the pairs
pub record IsMade (es : List IdEntry) (old new : List Bool) : Type 0 where
  pub long : length new ≡ length old
  pub keeps : Stays old new
  pub least : (marks : List Bool) → length marks ≡ length old → AreClosed es marks → Stays old marks → Stays new marks

-- the number of unmarked ids
abbrev pub unmarked : List Bool → ℕ
unmarked [] = 0
unmarked (b ∷ marks) = (if b then 0 else 1) + unmarked marks

-- the marks, and the marked ids
pub record MarkSetParts : Type 0 where
  pub marks : List Bool
  pub terms : List ℕ

-- each of the ids is marked
abbrev pub AllMarked : List Bool → List ℕ → Type 0
AllMarked marks ids = (k : ℕ) → Has ids k → slice_index_or marks k false ≡ true

-- each marked id is among these
abbrev pub AreAmong : List Bool → List ℕ → Type 0
AreAmong marks ids = (k : ℕ) → slice_index_or marks k false ≡ true → Has ids k

-- the set has not changed, or it grew and has more marks
pub record IsMore (old new : MarkSetParts) (grew : Bool) : Type 0 where
  pub longer : length old.terms ≤ length new.terms
  pub same : grew ≡ false → new ≡ old
  pub fewer : grew ≡ true → unmarked new.marks < unmarked old.marks

-- ---- listed pairs

-- the listed pairs, a mark for each of their members, their index, the universal term, the number of ids, and the limit
-- on the number of pairs; the universal term and the limit are optional
pub record ListedPairsParts : Type 0 where
  pub pairs : List IdEntry
  pub members : List Bool
  pub index : IndexParts
  pub universal : Option ℕ
  pub count : ℕ
  pub limit : Option ℕ

-- whether no further pair may be listed
abbrev pub is_full : ListedPairsParts → Bool
is_full r = option_map_or (λ m. nat_le m (length r.pairs)) r.limit false

-- the members of the sets of the pairs are marked
abbrev pub AreMembers : ListedPairsParts → Type 0
AreMembers r = (e : IdEntry) → Has r.pairs e → AllMarked r.members e.left × AllMarked r.members e.right

-- whether the closure of the set under the pairs contains the targets or the universal term
abbrev pub reaches_targets : ListedPairsParts → List ℕ → List ℕ → Bool
reaches_targets r ids targets = are_reached r.universal targets (saturated_marks r.count r.pairs ids)
