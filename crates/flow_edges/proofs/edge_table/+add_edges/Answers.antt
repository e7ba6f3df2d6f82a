use Rattle.std.proofs.Common.{map, flat_map}
use Rattle.std.proofs.lemmas.Result.{on_ok_weaker}
use Rattle.flow_edges.specs.EdgeViews.{flow_edge}
use Rattle.flow_edges.proofs.TableRows.{first_then}
use Rattle.flow_edges.proofs.edge_table.+add_edges.Goals as goal

pub add_edges_from-returns : goal.add_edges_from-returns
add_edges_from-returns g t c =
    let rows = g.T.EdgeTable.rows in
    let of_edge = g.T.EdgeTable.edge_rows in
    on_ok_weaker c.add_edges.result
    (first_then g.T.EdgeTable.same g.T.EdgeTable.most (rows c.args.table.now) (rows c.add_edge.new.self) (rows c.add_edges.new.table)
    (of_edge (flow_edge c.args.edge.now)) (flat_map of_edge (map flow_edge c.args.rest.now)) c.in_ok-add_edge.ensures)
    c.add_edges.ensures
