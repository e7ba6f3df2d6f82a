use Rattle.std.proofs.Common.{◌≡◌, map, take}
use Rattle.std.specs.Prelude.{filter}
use Rattle.kat_model.specs.Trees.{kat_tree}
use Rattle.flow_forms.specs.Comparisons.{comparison_tree}
use Rattle.flow_problem.specs.EdgeTerms.{edge_term}
use Rattle.flow_edges.specs.EdgeViews.{flow_action, flow_edge}
use Rattle.flow_edges.specs.GraphRows.{leads_to}
use Rattle.flow_edges.proofs.graph.edges_term.Given as goal

-- the terms of the edges so far that lead there
abbrev pub invariant-loop-edge : goal.invariant-loop-edge
invariant-loop-edge l =
    map kat_tree l.list.items
    ≡ map (edge_term (map comparison_tree l.tests) (map flow_action l.actions)) (filter (λ e. leads_to l.target e.target) (map flow_edge (take l.edge-index l.edges)))
