use Rattle.std.proofs.Common.{◌∙◌, ap, map, sym, Vec, Bor}
use Rattle.std.proofs.lemmas.Iterator.Adapters.{YieldsList-from_rev_slice}
use Rattle.std.proofs.lemmas.Iterator.Consumers.{YieldsList-at, YieldsList-end}
use Rattle.std.specs.declared.alloc.Global.{Global}
use Rattle.flow_forms.specs.Comparisons.{comparison_tree}
use Rattle.flow_ways.proofs.CourseLists.{map_pushed}
use Rattle.flow_places.specs.Rows.{row_tree}
use Rattle.flow_edges.specs.declared.edge.FlowEdge.{FlowEdge}
use Rattle.flow_edges.specs.EdgeViews.{flow_action, flow_edge}
use Rattle.flow_edges.specs.GraphRows.{row_edges, edge_row}
use Rattle.flow_edges.proofs.GraphRows.{map-reverse}
use Rattle.flow_edges.proofs.MappedLists.{mapped_given}
use Rattle.flow_edges.proofs.graph.rows_of.Goals as goal

pub loop-edges-preserved : goal.loop-edges-preserved
loop-edges-preserved c =
    let now = λ (y : Bor (Vec FlowEdge Global)). y.now in
    let row = edge_row (map comparison_tree c.args.tests.now) (map flow_action c.args.actions.now) c.args.places.now in
    mapped_given row row_edges row_tree (map now c.loop-edges.yielded) c.in-Some.edges.now _ _ _ c.loop-edges.invariant c.in_ok-append.ensures
    (c.in_ok-row_of.ensures ∙ ap (λ es. row (map flow_edge es)) c.deref.ensures.value)
    ∙ ap (λ rows. map row (map row_edges rows)) (sym (map_pushed now c.loop-edges.yielded c.in-Some.edges))

pub returns : goal.returns
returns c =
    let all = YieldsList-end (YieldsList-at c.into_iter-edges-iterator.ensures.into_iter_gives (YieldsList-from_rev_slice c.args.list.now cc)) c.loop-edges.yielded _ c.loop-edges.yielded_by _ _ c.in-None.is c.next.ensures.steps in
    c.loop-edges.invariant
    ∙ ap (map (edge_row (map comparison_tree c.args.tests.now) (map flow_action c.args.actions.now) c.args.places.now)) (ap (map row_edges) all.0 ∙ map-reverse row_edges c.args.list.now)
