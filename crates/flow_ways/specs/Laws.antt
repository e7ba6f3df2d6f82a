-- Ways are runs.
use Rattle.std.specs.Prelude.{◌≡◌, ℕ, Bool, List, length}
use Rattle.kat_model.specs.Members.{Has}
use Rattle.flow_model.specs.declared.sort.Sort.{Sort}
use Rattle.flow_model.specs.Sorts.{State, IsState}
use Rattle.flow_model.specs.Graphs.{Graph}
use Rattle.flow_model.specs.Interpretations.{Interpretation}
use Rattle.flow_ways.specs.Ways.{Way, ways, AllHold}
use Rattle.flow_ways.specs.Stops.{stop_from, EndsAs, IsSettled}
use Rattle.flow_ways.specs.Sorted.{IsSortedGraph}
use Rattle.flow_ways.specs.Liveness.{AgreeLive, StopsAgree}
use Rattle.flow_ways.specs.Actions.{ActsAsRun}

-- a way whose tests hold in a state ends where the run from this state ends, and each run that reaches a place or
-- returns has such a way
pub record AreRuns (I : Interpretation) (g : Graph) (sorts : List Sort) (is_place : ℕ → Bool) (k : ℕ) (s : State) : Type 0 where
  pub sound : (way : Way) → Has (ways g sorts is_place k) way → AllHold I s way.tests → EndsAs I s sorts way.end (stop_from I g is_place (length g) k s)
  pub complete : IsSettled (stop_from I g is_place (length g) k s) → (way : Way) × Has (ways g sorts is_place k) way × AllHold I s way.tests

-- runs from a block, in states that agree on what is live there, end alike at the next place
abbrev pub EndAlike : Type 0
EndAlike =
    (I : Interpretation) (g : Graph) (sorts : List Sort) (is_place : ℕ → Bool) → IsSortedGraph sorts g →
    (n k : ℕ) (s t : State) → length s ≡ length t → AgreeLive g k s t → StopsAgree g (stop_from I g is_place n k s) (stop_from I g is_place n k t)

abbrev pub ActionsAreRuns : Type 0
ActionsAreRuns =
    (I : Interpretation) (g : Graph) (sorts : List Sort) (is_place : ℕ → Bool) (live : ℕ → ℕ → Bool) (k : ℕ) (s : State) →
    IsSortedGraph sorts g → IsState sorts s → ActsAsRun I g sorts is_place live k s
