use Rattle.std.proofs.Common.{◌+◌, ◌*◌}
use Rattle.flow_forms.specs.Forms.{form_tree}
use Rattle.flow_forms.proofs.Measures.{cell_count}
use Rattle.flow_forms.proofs.form.FlowForm.+products.Given as goal

abbrev pub decreases-joined : goal.decreases-joined
decreases-joined l = 2 * (cell_count (form_tree l.self) + cell_count (form_tree l.right)) + 1

abbrev pub decreases-joined_before : goal.decreases-joined_before
decreases-joined_before l = 2 * (cell_count (form_tree l.rest) + 1 + cell_count (form_tree l.self))
