use Rattle.std.proofs.Common.{◌≡◌, List, subst, map, ap, ◌∙◌, take_all}
use Rattle.std.specs.Prelude.{IfOk}
use Rattle.std.proofs.lemmas.Result.{IfOk-weaker}
use Rattle.kat_model.specs.Trees.{Term, kat_tree}
use Rattle.kat_model.specs.Balanced.{sum_of}
use Rattle.flow_forms.specs.Comparisons.{comparison_tree}
use Rattle.flow_edges.specs.EdgeViews.{flow_action, flow_edge}
use Rattle.flow_edges.specs.GraphRows.{edges_term}
use Rattle.flow_edges.proofs.GraphRows.{next_edge}
use Rattle.flow_edges.proofs.graph.edges_term.Goals as goal

pub loop-edge-preserved : goal.loop-edge-preserved
loop-edge-preserved c =
    next_edge flow_edge (map comparison_tree c.args.tests.now) (map flow_action c.args.actions.now) c.args.target c.args.edges.now c.loop-edge.edge-index c.edge-item.result
    (map kat_tree c.loop-edge.list.items) (map kat_tree c.push_edge.new.list.items)
    c.loop-edge-test.true c.edge-item.is c.loop-edge.invariant c.in_ok-push_edge.ensures

pub returns : goal.returns
returns c =
    IfOk-weaker c.sum_of.result _ _
    (λ e made. made
    ∙ ap (λ es. edges_term (map comparison_tree c.args.tests.now) (map flow_action c.args.actions.now) es c.args.target) (ap (map flow_edge) (take_all c.loop-edge.edge-index c.args.edges.now c.loop-edge-test.false)))
    (subst (λ (ts : List Term). IfOk c.sum_of.result (λ e. kat_tree e ≡ sum_of ts)) c.loop-edge.invariant c.sum_of.ensures)
