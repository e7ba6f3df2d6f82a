use Rattle.std.proofs.Common.{◌+◌, ◌*◌, length}
use Rattle.flow_ways.proofs.way.+push_forms.Given as goal

abbrev pub decreases-push_forms : goal.decreases-push_forms
decreases-push_forms l = 2 * length l.forms.now

abbrev pub decreases-push_forms_from : goal.decreases-push_forms_from
decreases-push_forms_from l = 2 * length l.rest.now + 1
