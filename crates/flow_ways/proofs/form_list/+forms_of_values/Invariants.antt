use Rattle.std.proofs.Common.{◌+◌, ◌*◌, length}
use Rattle.flow_ways.proofs.form_list.+forms_of_values.Given as goal

abbrev pub decreases-forms_of_values : goal.decreases-forms_of_values
decreases-forms_of_values l = 2 * length l.values.now

abbrev pub decreases-forms_of_values_from : goal.decreases-forms_of_values_from
decreases-forms_of_values_from l = 2 * length l.rest.now + 1
