use Rattle.std.proofs.Common.{◌+◌, ◌*◌}
use Rattle.flow_forms.proofs.form.FlowForm.TheLaws.{the_size}
use Rattle.flow_forms.proofs.conversion.+truncated.Given as goal

abbrev pub decreases-truncated : goal.decreases-truncated
decreases-truncated l = 2 * the_size l.form.now

abbrev pub decreases-shortened : goal.decreases-shortened
decreases-shortened l = 2 * the_size l.form.now + 1
