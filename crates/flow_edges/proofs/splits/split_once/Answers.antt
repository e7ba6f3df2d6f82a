use Rattle.std.proofs.Common.{rules, map, flat_map, sym, ◌∙◌, ap}
use Rattle.std.proofs.lemmas.List.{map-id}
use Rattle.std.proofs.lemmas.Iterator.Adapters.{YieldsList-from_vec}
use Rattle.std.proofs.lemmas.Iterator.Consumers.{YieldsList-end}
use Rattle.flow_edges.specs.EdgeViews.{flow_edge}
use Rattle.flow_problem.specs.Splits.{split_edge}
use Rattle.flow_edges.specs.CellTests.{cell_test_tree}
use Rattle.flow_edges.proofs.SplitLists.{split_more}
use Rattle.flow_edges.proofs.splits.split_once.Goals as goal

pub loop-edge-preserved : goal.loop-edge-preserved
loop-edge-preserved c =
    split_more (split_edge c.args.sorts.now (cell_test_tree c.args.test.now)) flow_edge c.loop-edge.yielded c.in-Some.edge _ _
    c.in_ok-push_split.ensures c.loop-edge.invariant

pub returns : goal.returns
returns c =
    let all =
    YieldsList-end (YieldsList-from_vec {s = c.into_iter-edge-iterator.result} c.args.edges.items (search rules) (search rules))
    c.loop-edge.yielded c.loop-edge.edge-iterator c.loop-edge.yielded_by c.next.result c.next.new.self c.in-None.is c.next.ensures.steps in
    c.loop-edge.invariant ∙ ap (λ es. flat_map (split_edge c.args.sorts.now (cell_test_tree c.args.test.now)) (map flow_edge es)) (sym (map-id c.loop-edge.yielded) ∙ all.0)
