use Rattle.std.proofs.Common.{◌≡◌, length, map}
use Rattle.flow_model.specs.Polish.{cond_part, conds_of}
use Rattle.flow_forms.specs.Forms.{form_tree}
use Rattle.flow_ways.specs.Conditions.{cond_form}
use Rattle.flow_ways.specs.CondForms.{cond_nodes_fit, stack_conds}
use Rattle.flow_ways.proofs.CondForms.{conds_over}
use Rattle.flow_ways.proofs.cond_form.evaluated.Given as goal

-- the nodes that are left, over the conditions so far
abbrev pub invariant-nodes : goal.invariant-nodes
invariant-nodes l =
    record {
      made : conds_over l.sorts (map form_tree l.forms) l.rest (stack_conds l.stack) ≡ map (cond_form l.sorts (map form_tree l.forms)) (conds_of (map cond_part l.nodes));
      fits : cond_nodes_fit l.sorts (map form_tree l.forms) l.rest ≡ cond_nodes_fit l.sorts (map form_tree l.forms) l.nodes;
    }

abbrev pub decreases-nodes : goal.decreases-nodes
decreases-nodes l = length l.rest
