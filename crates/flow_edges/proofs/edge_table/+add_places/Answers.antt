use Rattle.std.proofs.Common.{flat_map}
use Rattle.std.proofs.lemmas.Result.{on_ok_weaker}
use Rattle.flow_edges.specs.EdgeViews.{flow_edge}
use Rattle.flow_edges.specs.GraphRows.{row_edges}
use Rattle.flow_edges.proofs.TableRows.{part_then}
use Rattle.flow_edges.proofs.edge_table.+add_places.Goals as goal

pub add_places_from-returns : goal.add_places_from-returns
add_places_from-returns g t c =
    let rows = g.T.EdgeTable.rows in
    on_ok_weaker c.add_places.result
    (part_then g.T.EdgeTable.same g.T.EdgeTable.most flow_edge g.T.EdgeTable.edge_rows (rows c.args.table.now) (rows c.add_edges.new.table) (rows c.add_places.new.table)
    c.deref.result.now c.args.edges.now.items (flat_map row_edges c.args.rest.now) c.deref.ensures.value c.in_ok-add_edges.ensures)
    c.add_places.ensures
