use Rattle.std.proofs.Common.{map}
use Rattle.flow_model.specs.Polish.{cond_part, conds_of}
use Rattle.flow_forms.specs.Forms.{form_tree}
use Rattle.flow_ways.specs.Conditions.{cond_form}
use Rattle.flow_ways.specs.CondForms.{cond_nodes_fit, stack_conds}
use Rattle.flow_ways.proofs.CondForms.{over_rest, fits_rest}
use Rattle.flow_ways.proofs.cond_form.evaluated.Goals as goal

pub nodes-preserved : goal.nodes-preserved
nodes-preserved c =
    let sorts = c.args.sorts.now in
    let env = map form_tree c.args.forms.now in
    let left = c.nodes.rest.now in
    let before = c.in-Some.field-0-1.now in
    record {
      made = over_rest sorts env left before c.in-Some.node.now (stack_conds c.nodes.stack) (stack_conds c.in_ok-stack.stack) (map (cond_form sorts env) (conds_of (map cond_part c.args.nodes.now))) c.in-Some.ensures.cases.0 c.in_ok-stack.ensures.made c.nodes.invariant.made;
      fits = fits_rest sorts env left before c.in-Some.node.now (cond_nodes_fit sorts env c.args.nodes.now) c.in-Some.ensures.cases.0 c.in_ok-stack.ensures.fits c.nodes.invariant.fits;
    }
