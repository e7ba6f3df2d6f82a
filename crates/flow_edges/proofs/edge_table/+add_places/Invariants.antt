use Rattle.std.proofs.Common.{◌+◌, ◌*◌, length}
use Rattle.flow_edges.proofs.edge_table.+add_places.Given as goal

abbrev pub decreases-add_places : goal.decreases-add_places
decreases-add_places g l = 2 * length l.list.now

abbrev pub decreases-add_places_from : goal.decreases-add_places_from
decreases-add_places_from g l = 2 * length l.rest.now + 1
