use Rattle.std.proofs.Common.{true, false, map, sym, ap, ◌∙◌}
use Rattle.std.proofs.lemmas.Result.{IfOk-weaker, IfErr-weaker}
use Rattle.flow_model.specs.Polish.{exprs_of}
use Rattle.flow_forms.specs.Forms.{form_tree}
use Rattle.flow_forms.specs.Evaluation.{node_form}
use Rattle.flow_forms.proofs.Evaluated.{forms_with_node, fits_after}
use Rattle.flow_forms.proofs.expression.+evaluated.Goals as goal

pub evaluated_from-returns-clause-made : goal.evaluated_from-returns-clause-made
evaluated_from-returns-clause-made t c =
    let sorts = c.args.sorts.now in
    let env = map form_tree c.args.forms.now in
    IfOk-weaker c.with_node.result _ _
    (λ f is. is ∙ ap (node_form sorts env c.args.node) c.in_ok-stack.ensures.made ∙ sym (forms_with_node sorts env c.args.node (exprs_of c.args.rest.now)))
    c.with_node.ensures.made

pub evaluated_from-returns-clause-fits : goal.evaluated_from-returns-clause-fits
evaluated_from-returns-clause-fits t c =
    let before = c.in_ok-stack.ensures in
    IfOk-weaker c.with_node.result _ _
    (λ f is. fits_after c.args.sorts.now (map form_tree c.args.forms.now) c.args.node (exprs_of c.args.rest.now) (form_tree c.in_ok-stack.stack) true before.made before.fits is)
    c.with_node.ensures.fits

pub evaluated_from-returns-clause-refused : goal.evaluated_from-returns-clause-refused
evaluated_from-returns-clause-refused t c =
    let before = c.in_ok-stack.ensures in
    IfErr-weaker c.with_node.result _ _
    (λ fault is large. fits_after c.args.sorts.now (map form_tree c.args.forms.now) c.args.node (exprs_of c.args.rest.now) (form_tree c.in_ok-stack.stack) false before.made before.fits (is large))
    c.with_node.ensures.refused
