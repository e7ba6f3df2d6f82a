use Rattle.std.proofs.Common.{◌+◌, ◌*◌}
use Rattle.flow_forms.specs.Forms.{form_tree}
use Rattle.flow_forms.proofs.Measures.{term_count}
use Rattle.flow_forms.proofs.form.FlowForm.+sums.Given as goal

abbrev pub decreases-plus : goal.decreases-plus
decreases-plus l = 2 * (term_count (form_tree l.self) + term_count (form_tree l.right)) + 1

abbrev pub decreases-plus_term : goal.decreases-plus_term
decreases-plus_term l = 2 * (term_count (form_tree l.rest) + 1 + term_count (form_tree l.self))
