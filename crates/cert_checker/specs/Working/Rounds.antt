-- Rounds of saturation: each traverses pairs, and appends to the reached numbers those that the pairs add.
use Rattle.std.specs.Prelude.{◌≡◌, ◌⊎◌, ℕ, Bool, true, List, slice_get, Some}
use Rattle.kat_model.specs.Members.{Has, IsSubset}
use Rattle.term_nodes.specs.NumberSets.{NumberPair}
use Rattle.certificate.specs.PairParts.{PairParts}
use Rattle.cert_checker.specs.declared.known.Truth.{Truth}
use Rattle.cert_checker.specs.declared.saturation.Counted.{Counted}
use Rattle.cert_checker.specs.Indices.{AreIndexed}
use Rattle.cert_checker.specs.Working.Matching.{does_count, counting}
use Rattle.cert_checker.specs.Working.Reaching.{HoldsAll, IsClosed}

-- each number keeps its place
abbrev pub StayInPlace : List ℕ → List ℕ → Type 0
StayInPlace old new = (j k : ℕ) → slice_get old j ≡ Some k → slice_get new j ≡ Some k

-- the numbers of the set are appended
pub record AreAdded (set old new : List ℕ) : Type 0 where
  pub kept : StayInPlace old new
  pub there : IsSubset set new
  pub only : (k : ℕ) → Has new k → Has old k ⊎ Has set k

-- if all of the first set was present, the numbers of the second set are appended
pub record IsBrought (set other old new : List ℕ) : Type 0 where
  pub kept : StayInPlace old new
  pub there : IsSubset set old → IsSubset other new
  pub only : (k : ℕ) → Has new k → Has old k ⊎ (IsSubset set old × Has other k)

-- numbers are appended that the pairs make reachable
pub record GoesOn (ps : List NumberPair) (old new : List ℕ) : Type 0 where
  pub kept : StayInPlace old new
  pub made : (set : ℕ → Bool) → IsClosed ps set → HoldsAll set old → HoldsAll set new

-- if the pair counts and all of one of its sets was present, all of the other is
abbrev pub IsTended : Bool → List Truth → List ℕ → List ℕ → PairParts → Type 0
IsTended also known old new p =
    does_count also known p ≡ true → (IsSubset p.left old → IsSubset p.right new) × (IsSubset p.right old → IsSubset p.left new)

-- the same for the pairs at these places
abbrev pub AreTendedAt : List PairParts → Bool → List Truth → List ℕ → List ℕ → List ℕ → Type 0
AreTendedAt ps also known old new places = (k : ℕ) (p : PairParts) → Has places k → slice_get ps k ≡ Some p → IsTended also known old new p

-- the sets of the pairs that count; these pairs have an index
abbrev pub counting_in : Counted → List NumberPair
counting_in c = counting c.also_open c.known.now c.action_pass.now.pairs

abbrev pub IsIndexed : Counted → Type 0
IsIndexed c = AreIndexed c.action_pass.now.index c.action_pass.now.pairs
