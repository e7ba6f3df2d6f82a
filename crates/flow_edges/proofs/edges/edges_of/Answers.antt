use Rattle.std.proofs.Common.{rules, [], map, sym, ◌∙◌, ap}
use Rattle.std.proofs.lemmas.List.{map-id}
use Rattle.std.proofs.lemmas.Iterator.Adapters.{YieldsList-from_vec}
use Rattle.std.proofs.lemmas.Iterator.Consumers.{YieldsList-end}
use Rattle.flow_ways.specs.WayTrees.{way_tree}
use Rattle.flow_problem.specs.Edges.{edge_of}
use Rattle.flow_edges.specs.EdgeTables.{table_marks}
use Rattle.flow_edges.specs.EdgeViews.{flow_edge}
use Rattle.flow_edges.proofs.MappedLists.{mapped_given}
use Rattle.flow_edges.proofs.edges.edges_of.Goals as goal

pub loop-way-preserved : goal.loop-way-preserved
loop-way-preserved c =
    mapped_given (edge_of (table_marks [] c.args.live.now) c.args.sorts.now) way_tree flow_edge c.loop-way.yielded c.in-Some.way _ _ _
    c.loop-way.invariant c.in_ok-append.ensures c.in_ok-edge_of.ensures

pub returns : goal.returns
returns c =
    let all =
    YieldsList-end (YieldsList-from_vec {s = c.into_iter-way-iterator.result} c.args.list.items (search rules) (search rules))
    c.loop-way.yielded c.loop-way.way-iterator c.loop-way.yielded_by c.next.result c.next.new.self c.in-None.is c.next.ensures.steps in
    c.loop-way.invariant ∙ ap (λ ws. map (edge_of (table_marks [] c.args.live.now) c.args.sorts.now) (map way_tree ws)) (sym (map-id c.loop-way.yielded) ∙ all.0)
