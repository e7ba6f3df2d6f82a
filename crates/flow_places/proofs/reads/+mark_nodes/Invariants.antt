use Rattle.std.proofs.Common.{◌+◌, ◌*◌, length}
use Rattle.flow_places.proofs.reads.+mark_nodes.Given as goal

abbrev pub decreases-mark_nodes : goal.decreases-mark_nodes
decreases-mark_nodes l = 2 * length l.nodes.now

abbrev pub decreases-mark_nodes_from : goal.decreases-mark_nodes_from
decreases-mark_nodes_from l = 2 * length l.rest.now + 1
