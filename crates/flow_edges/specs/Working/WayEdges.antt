-- The edges of ways of the program.
use Rattle.std.specs.Prelude.{ℕ, Bool, List, [], map, Option, Vec}
use Rattle.std.specs.declared.alloc.Global.{Global}
use Rattle.flow_model.specs.declared.sort.Sort.{Sort}
use Rattle.flow_forms.specs.declared.form.FlowForm.{FlowForm}
use Rattle.flow_forms.specs.Forms.{FlowFormTree, form_tree}
use Rattle.flow_ways.specs.declared.way.Way.{Way}
use Rattle.flow_ways.specs.declared.way.WayEnd.{WayEnd}
use Rattle.flow_ways.specs.Actions.{action_of}
use Rattle.flow_ways.specs.WayTrees.{end_tree, way_tree}
use Rattle.flow_places.specs.Tables.{noted}
use Rattle.flow_problem.specs.Edges.{Edge, FlowActionTree, edge_of, end_action}
use Rattle.flow_edges.specs.EdgeTables.{table_marks}

-- the parallel assignment of a way that ends at a block with forms of the variables
abbrev pub assignment_at_block : List Sort → List (Vec Bool Global) → ℕ → List FlowForm → List (Option FlowFormTree)
assignment_at_block sorts live block forms = action_of (λ x. noted live x block) sorts (map form_tree forms)

abbrev pub edges_of_ways : List Sort → List (Vec Bool Global) → Vec Way Global → List Edge
edges_of_ways sorts live ways = map (edge_of (table_marks [] live) sorts) (map way_tree ways.items)

abbrev pub action_of_end : List Sort → List (Vec Bool Global) → WayEnd → FlowActionTree
action_of_end sorts live end = end_action (table_marks [] live) sorts (end_tree end)
