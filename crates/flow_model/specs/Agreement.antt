-- What the front promises of two graphs.
use Rattle.std.specs.Prelude.{ℕ, List, ◌↔◌}
use Rattle.flow_model.specs.Sorts.{State, IsState}
use Rattle.flow_model.specs.Graphs.{Pair}
use Rattle.flow_model.specs.Interpretations.{Interpretation}
use Rattle.flow_model.specs.Runs.{Returns}

-- under every interpretation, from every state, both graphs return the same lists of values
abbrev pub AgreeAlways : Pair → Type 0
AgreeAlways p =
    (I : Interpretation) (s : State) → IsState p.sorts s → (vs : List ℕ) → Returns I p.before s vs ↔ Returns I p.after s vs
