use Rattle.flow_forms.specs.Forms.{form_tree}
use Rattle.flow_ways.proofs.ActionForms.{own_answers}
use Rattle.flow_ways.proofs.action.is_own.Goals as goal

pub returns : goal.returns
returns c =
    own_answers c.same_form.result c.args.number c.args.sort (form_tree c.args.form.now) (form_tree c.in_ok-own.own) c.in_ok-own.ensures c.same_form.ensures
