use Rattle.std.proofs.Common.{false, map, slice_index_or}
use Rattle.flow_model.specs.Polish.{graph_of}
use Rattle.flow_ways.specs.Ways.{ways}
use Rattle.flow_ways.specs.WayTrees.{way_tree}
use Rattle.flow_edges.specs.EdgeViews.{flow_edge}
use Rattle.flow_edges.proofs.EdgesOfTables.{all_edges}
use Rattle.flow_edges.proofs.edges.edges_from.Goals as goal

pub returns-clause-found : goal.returns-clause-found
returns-clause-found c =
    all_edges c.args.places.now c.args.live.now c.args.sorts.now (map flow_edge c.in_ok-edges_of.field-0.items) (map way_tree c.in_ok-list.list.items)
    (ways (graph_of c.args.blocks.now) c.args.sorts.now (λ l. slice_index_or c.args.places.now l false) c.args.block) c.in_ok-edges_of.ensures c.in_ok-list.ensures.found
