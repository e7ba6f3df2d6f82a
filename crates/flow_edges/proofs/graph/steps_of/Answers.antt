use Rattle.std.proofs.Common.{◌∙◌, ap, map, ℕ, Some, Bor}
use Rattle.std.proofs.lemmas.Iterator.Adapters.{YieldsList-from_rev_slice}
use Rattle.std.proofs.lemmas.Iterator.Consumers.{YieldsList-at, YieldsList-end}
use Rattle.kat_model.specs.Trees.{kat_tree}
use Rattle.flow_forms.specs.Comparisons.{comparison_tree}
use Rattle.flow_edges.specs.EdgeViews.{flow_action, flow_edge}
use Rattle.flow_edges.specs.GraphRows.{edges_term}
use Rattle.flow_edges.proofs.MappedLists.{mapped_given}
use Rattle.flow_edges.proofs.graph.steps_of.Goals as goal

pub loop-place-preserved : goal.loop-place-preserved
loop-place-preserved c =
    mapped_given (λ j. edges_term (map comparison_tree c.args.tests.now) (map flow_action c.args.actions.now) (map flow_edge c.args.edges.now) (Some j)) (λ (y : Bor ℕ). y.now) kat_tree
    c.loop-place.yielded c.in-Some.place _ _ _ c.loop-place.invariant c.in_ok-append.ensures c.in_ok-term.ensures

pub returns : goal.returns
returns c =
    let all = YieldsList-end (YieldsList-at c.into_iter-place-iterator.ensures.into_iter_gives (YieldsList-from_rev_slice c.args.places.now cc)) c.loop-place.yielded _ c.loop-place.yielded_by _ _ c.in-None.is c.next.ensures.steps in
    c.loop-place.invariant
    ∙ ap (map (λ j. edges_term (map comparison_tree c.args.tests.now) (map flow_action c.args.actions.now) (map flow_edge c.args.edges.now) (Some j))) all.0
