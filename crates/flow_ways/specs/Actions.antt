-- The action of a way that ends at a place: the parallel assignment of the live variables whose form is not themselves.
use Rattle.std.specs.Prelude.{◌≡◌, ℕ, suc, Bool, true, not, ◌&&◌, List, [], ◌∷◌, length, Option, Some, None, slice_index_or, if◌then◌else◌}
use Rattle.std.specs.Ordering.{is_eq}
use Rattle.kat_model.specs.Members.{Has}
use Rattle.flow_model.specs.declared.sort.Sort.{Sort}
use Rattle.flow_model.specs.Sorts.{State, IsState}
use Rattle.flow_model.specs.Graphs.{Graph}
use Rattle.flow_model.specs.Interpretations.{Interpretation}
use Rattle.flow_forms.specs.Forms.{FlowFormTree, variable}
use Rattle.flow_forms.specs.Order.{form_cmp}
use Rattle.flow_forms.specs.Values.{form_value}
use Rattle.flow_forms.specs.Expressions.{form_of_cell}
use Rattle.flow_ways.specs.Ways.{Way, at_place, ways, AllHold}
use Rattle.flow_ways.specs.Stops.{came_to, stop_from}

-- whether a form is variable k itself
abbrev pub is_own : ℕ → Sort → FlowFormTree → Bool
is_own k sort f = is_eq (form_cmp f (form_of_cell sort (variable k)))

-- what variable k is set to, if it is live and its form is not itself
abbrev pub set_form : ℕ → (ℕ → Bool) → Sort → FlowFormTree → Option FlowFormTree
set_form k live sort f = if live k && not (is_own k sort f) then Some f else None

-- a parallel assignment: for each variable, from variable k on, the form that it is set to, if any
abbrev pub action_from : ℕ → (ℕ → Bool) → List Sort → List FlowFormTree → List (Option FlowFormTree)
action_from k live (sort ∷ sorts) (f ∷ fs) = set_form k live sort f ∷ action_from (suc k) live sorts fs
action_from k live sorts fs = []

abbrev pub action_of : (ℕ → Bool) → List Sort → List FlowFormTree → List (Option FlowFormTree)
action_of live sorts forms = action_from 0 live sorts forms

abbrev pub new_value : Interpretation → State → Sort → ℕ → Option FlowFormTree → ℕ
new_value I s sort n None = n
new_value I s sort n (Some f) = form_value I s sort f

-- the values after a parallel assignment in the state `s`
abbrev pub after_from : Interpretation → State → List Sort → List (Option FlowFormTree) → State → State
after_from I s (sort ∷ sorts) (o ∷ os) (n ∷ ns) = new_value I s sort n o ∷ after_from I s sorts os ns
after_from I s sorts os ns = ns

abbrev pub after_action : Interpretation → State → List Sort → List (Option FlowFormTree) → State
after_action I s sorts action = after_from I s sorts action s

-- the action leads from the state `s` to a state that has the variables' values at the end of the way, where they are
-- live
pub record Acts (I : Interpretation) (s : State) (sorts : List Sort) (live : ℕ → Bool) (forms : List FlowFormTree) (t : State) : Type 0 where
  pub is_state : IsState sorts (after_action I s sorts (action_of live sorts forms))
  pub agrees : (x : ℕ) → live x ≡ true → slice_index_or (after_action I s sorts (action_of live sorts forms)) x 0 ≡ slice_index_or t x 0

-- a way that ends at a place and whose tests hold in the state `s`: the run from this state reaches that place, in the
-- state to which the action leads where variables are live
abbrev pub ActsAsRun : Interpretation → Graph → List Sort → (ℕ → Bool) → (ℕ → ℕ → Bool) → ℕ → State → Type 0
ActsAsRun I g sorts is_place live k s =
    (way : Way) (l : ℕ) (forms : List FlowFormTree) → Has (ways g sorts is_place k) way → way.end ≡ at_place l forms → AllHold I s way.tests →
    (t : State) × (stop_from I g is_place (length g) k s ≡ came_to l t) × Acts I s sorts (live l) forms t
