use Rattle.std.proofs.Common.{◌+◌, ◌*◌, length}
use Rattle.flow_abstraction.proofs.placed.+push_rows.Given as goal

abbrev pub decreases-push_rows : goal.decreases-push_rows
decreases-push_rows l = 2 * length l.blocks.now

abbrev pub decreases-push_rows_from : goal.decreases-push_rows_from
decreases-push_rows_from l = 2 * length l.rest.now + 1
