-- A flow graph over its places: each way from a place is an edge, with the tests of the way, the action that ends it, and
-- the place that it leads to.
use Rattle.std.specs.Prelude.{ℕ, Bool, true, false, ◌&&◌, List, [], ◌∷◌, map, Option, Some, None}
use Rattle.std.specs.Ordering.{is_eq}
use Rattle.flow_model.specs.declared.sort.Sort.{Sort}
use Rattle.flow_model.specs.Graphs.{Graph}
use Rattle.flow_forms.specs.Forms.{FlowFormTree}
use Rattle.flow_forms.specs.Order.{sort_cmp, form_cmp}
use Rattle.flow_ways.specs.Conditions.{FlowCondTree}
use Rattle.flow_ways.specs.Ways.{WayEnd, at_place, at_return, Way, ways}
use Rattle.flow_ways.specs.Actions.{action_of}

-- A parallel assignment: for each variable the form that it is set to, if any; or the results of a `return`, each with
-- its sort.
pub data FlowActionTree : Type 0 where
  assigned : (forms : List (Option FlowFormTree)) → FlowActionTree
  given : (results : List (Sort × FlowFormTree)) → FlowActionTree

-- an edge leads to a place, or to the end of the graph
pub record Edge : Type 0 where
  pub tests : List FlowCondTree
  pub action : FlowActionTree
  pub target : Option ℕ

-- the places of a graph in their order, which blocks are places, and the variables that are live at each block
pub record Marks : Type 0 where
  pub places : List ℕ
  pub is_place : ℕ → Bool
  pub live : ℕ → ℕ → Bool

abbrev pub end_action : Marks → List Sort → WayEnd → FlowActionTree
end_action marks sorts (at_place l forms) = assigned (action_of (marks.live l) sorts forms)
end_action marks sorts (at_return results) = given results

abbrev pub end_target : WayEnd → Option ℕ
end_target (at_place l forms) = Some l
end_target (at_return results) = None

abbrev pub edge_of : Marks → List Sort → Way → Edge
edge_of marks sorts way = record { tests = way.tests; action = end_action marks sorts way.end; target = end_target way.end }

-- the edges from a place
abbrev pub way_edges : Graph → List Sort → Marks → ℕ → List Edge
way_edges g sorts marks k = map (edge_of marks sorts) (ways g sorts marks.is_place k)

-- whether an action changes nothing
abbrev pub sets_nothing : List (Option FlowFormTree) → Bool
sets_nothing [] = true
sets_nothing (None ∷ os) = sets_nothing os
sets_nothing (Some f ∷ os) = false

abbrev pub is_idle : FlowActionTree → Bool
is_idle (assigned forms) = sets_nothing forms
is_idle (given []) = true
is_idle (given (r ∷ rs)) = false

-- whether two actions are one
abbrev pub is_same_set : Option FlowFormTree → Option FlowFormTree → Bool
is_same_set None None = true
is_same_set (Some f) (Some g) = is_eq (form_cmp f g)
is_same_set _ _ = false

abbrev pub are_same_sets : List (Option FlowFormTree) → List (Option FlowFormTree) → Bool
are_same_sets [] [] = true
are_same_sets (o ∷ os) (p ∷ ps) = is_same_set o p && are_same_sets os ps
are_same_sets _ _ = false

abbrev pub are_same_results : List (Sort × FlowFormTree) → List (Sort × FlowFormTree) → Bool
are_same_results [] [] = true
are_same_results (r ∷ rs) (q ∷ qs) = (is_eq (sort_cmp r.0 q.0) && is_eq (form_cmp r.1 q.1)) && are_same_results rs qs
are_same_results _ _ = false

abbrev pub is_same_action : FlowActionTree → FlowActionTree → Bool
is_same_action (assigned os) (assigned ps) = are_same_sets os ps
is_same_action (given rs) (given qs) = are_same_results rs qs
is_same_action _ _ = false
