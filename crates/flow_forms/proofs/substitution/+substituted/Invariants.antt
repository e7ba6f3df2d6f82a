use Rattle.std.proofs.Common.{◌+◌, ◌*◌, max}
use Rattle.flow_forms.proofs.form.FlowForm.TheLaws.{the_size}
use Rattle.flow_forms.proofs.substitution.+substituted.Given as goal

-- The measure of the call for both parts is between the measures of the calls for the whole and for each part.
abbrev pub decreases-substitute : goal.decreases-substitute
decreases-substitute l = 2 * the_size l.form.now

abbrev pub decreases-substitute_both : goal.decreases-substitute_both
decreases-substitute_both l = 2 * max (the_size l.first.now) (the_size l.second.now) + 1
