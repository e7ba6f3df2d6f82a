use Rattle.std.proofs.Common.{map}
use Rattle.std.proofs.lemmas.Result.{on_ok_weaker}
use Rattle.flow_forms.specs.Forms.{form_tree}
use Rattle.flow_ways.specs.ActionTrees.{set_tree}
use Rattle.flow_abstraction.proofs.AssignedForms.{form_then}
use Rattle.flow_abstraction.proofs.assigned_forms.+push_forms.Goals as goal

pub push_forms_then-returns : goal.push_forms_then-returns
push_forms_then-returns t c =
    on_ok_weaker c.push_forms.result
    (form_then c.args.number c.args.others.now (map set_tree c.args.sets.now) (form_tree c.args.form)
    (map form_tree c.args.list.now.items) (map form_tree c.push_form.new.list.items) (map form_tree c.push_forms.new.list.items) c.in_ok-push_form.ensures)
    c.push_forms.ensures
