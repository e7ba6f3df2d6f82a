use Rattle.std.proofs.Common.{◌≡◌, map, Some}
use Rattle.kat_model.specs.Trees.{kat_tree}
use Rattle.flow_forms.specs.Comparisons.{comparison_tree}
use Rattle.flow_edges.specs.EdgeViews.{flow_action, flow_edge}
use Rattle.flow_edges.specs.GraphRows.{edges_term}
use Rattle.flow_edges.proofs.graph.steps_of.Given as goal

-- the terms to the places so far
abbrev pub invariant-loop-place : goal.invariant-loop-place
invariant-loop-place l =
    map kat_tree l.steps.items
    ≡ map (λ j. edges_term (map comparison_tree l.tests) (map flow_action l.actions) (map flow_edge l.edges) (Some j)) (map (λ y. y.now) l.yielded)
