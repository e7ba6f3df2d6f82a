use Rattle.std.proofs.Common.{◌≡◌, map}
use Rattle.flow_forms.specs.Comparisons.{comparison_tree}
use Rattle.flow_places.specs.Rows.{row_tree}
use Rattle.flow_edges.specs.EdgeViews.{flow_action}
use Rattle.flow_edges.specs.GraphRows.{row_edges, edge_row}
use Rattle.flow_edges.proofs.graph.rows_of.Given as goal

-- the rows of the places so far
abbrev pub invariant-loop-edges : goal.invariant-loop-edges
invariant-loop-edges l =
    map row_tree l.rows.items
    ≡ map (edge_row (map comparison_tree l.tests) (map flow_action l.actions) l.places) (map row_edges (map (λ y. y.now) l.yielded))
