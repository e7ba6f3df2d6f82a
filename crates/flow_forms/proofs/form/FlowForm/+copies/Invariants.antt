use Rattle.std.proofs.Common.{◌+◌, ◌*◌, max}
use Rattle.flow_forms.proofs.form.FlowForm.TheLaws.{the_size}
use Rattle.flow_forms.proofs.form.FlowForm.+copies.Given as goal

-- The measure of the call for both parts lies between the measures of the calls for the whole and for each part.
abbrev pub decreases-copy : goal.decreases-copy
decreases-copy l = 2 * the_size l.self.now

abbrev pub decreases-boxed_copies : goal.decreases-boxed_copies
decreases-boxed_copies l = 2 * max (the_size l.left.now) (the_size l.right.now) + 1
