use Rattle.flow_forms.specs.Forms.{form_tree}
use Rattle.flow_forms.proofs.SameComparisons.{form_answers}
use Rattle.flow_edges.proofs.action.is_one_form.Goals as goal

pub returns : goal.returns
returns c = form_answers c.same_form.result (form_tree c.args.left.now) (form_tree c.args.right.now) c.same_form.ensures
