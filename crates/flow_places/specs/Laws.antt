-- Places and live variables.
use Rattle.std.specs.Prelude.{◌≡◌, ◌↔◌, ◌<◌, ℕ, true, false, length}
use Rattle.kat_model.specs.Members.{Has}
use Rattle.flow_model.specs.Sorts.{State}
use Rattle.flow_model.specs.Graphs.{Graph}
use Rattle.flow_model.specs.Interpretations.{Interpretation}
use Rattle.flow_ways.specs.Stops.{unfinished, stop_from, IsSettled}
use Rattle.flow_ways.specs.Liveness.{IsLive}
use Rattle.flow_places.specs.Places.{is_reached, has_marks, is_place}
use Rattle.flow_places.specs.Loops.{targets, IsReached, HasUncutLoop}
use Rattle.flow_places.specs.Live.{live}

-- each jump of the graph leads to one of its blocks
abbrev pub JumpsInside : Graph → Type 0
JumpsInside g = (k l : ℕ) → Has (targets g k) l → l < length g

-- The run from a block reaches a place, returns or gets stuck within the number of blocks of the graph: more blocks do
-- not change where it ends, and within the graph it always ends.
pub record ComesToEnd (I : Interpretation) (g : Graph) (k : ℕ) (s : State) : Type 0 where
  pub settles : (n : ℕ) → IsSettled (stop_from I g (is_place g) n k s) → stop_from I g (is_place g) (length g) k s ≡ stop_from I g (is_place g) n k s
  pub ends : JumpsInside g → stop_from I g (is_place g) (length g) k s ≡ unfinished → ⊥

-- where each loop that is reached has a place, runs from places end
abbrev pub PlacesCutRuns : Type 0
PlacesCutRuns =
    (I : Interpretation) (g : Graph) (k : ℕ) (s : State) → (HasUncutLoop g → ⊥) → is_place g k ≡ true → ComesToEnd I g k s

abbrev pub ReachedExactly : Type 0
ReachedExactly = (g : Graph) (k : ℕ) → (is_reached g k ≡ true) ↔ IsReached g k

-- where no block that is reached is marked, each loop that is reached has a place
abbrev pub UnmarkedAreCut : Type 0
UnmarkedAreCut = (g : Graph) → has_marks g ≡ false → HasUncutLoop g → ⊥

abbrev pub LiveExactly : Type 0
LiveExactly = (g : Graph) (k x : ℕ) → (live g k x ≡ true) ↔ IsLive g x k
