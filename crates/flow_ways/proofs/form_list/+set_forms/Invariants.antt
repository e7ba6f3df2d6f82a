use Rattle.std.proofs.Common.{◌+◌, ◌*◌, length}
use Rattle.flow_ways.proofs.form_list.+set_forms.Given as goal

abbrev pub decreases-set_forms : goal.decreases-set_forms
decreases-set_forms l = 2 * length l.targets.now

abbrev pub decreases-set_forms_from : goal.decreases-set_forms_from
decreases-set_forms_from l = 2 * length l.rest.now + 1
