use Rattle.flow_forms.specs.Forms.{form_tree}
use Rattle.flow_edges.proofs.CellForms.{cell_answers}
use Rattle.flow_edges.proofs.splits.cell.is_same_cell.Goals as goal

pub returns : goal.returns
returns c = cell_answers c.same_form.result (form_tree c.args.left.now) (form_tree c.args.right.now) c.same_form.ensures
