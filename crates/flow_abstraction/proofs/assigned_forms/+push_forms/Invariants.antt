use Rattle.std.proofs.Common.{◌+◌, ◌*◌, length}
use Rattle.flow_abstraction.proofs.assigned_forms.+push_forms.Given as goal

abbrev pub decreases-push_forms : goal.decreases-push_forms
decreases-push_forms l = 3 * length l.sorts.now

abbrev pub decreases-push_forms_from : goal.decreases-push_forms_from
decreases-push_forms_from l = 3 * length l.others.now + 2

abbrev pub decreases-push_forms_then : goal.decreases-push_forms_then
decreases-push_forms_then l = 3 * length l.others.now + 1
