use Rattle.std.proofs.Common.{◌+◌, ◌*◌, length}
use Rattle.flow_edges.proofs.edge_table.+add_edges.Given as goal

abbrev pub decreases-add_edges : goal.decreases-add_edges
decreases-add_edges g l = 2 * length l.edges.now

abbrev pub decreases-add_edges_from : goal.decreases-add_edges_from
decreases-add_edges_from g l = 2 * length l.rest.now + 1
