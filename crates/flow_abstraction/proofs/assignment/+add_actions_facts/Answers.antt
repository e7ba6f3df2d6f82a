-- The facts of the first one, then those of the others.
use Rattle.std.proofs.Common.{flat_map, map, ◌+◌}
use Rattle.std.specs.List.{enumerate_from}
use Rattle.std.proofs.lemmas.Result.{on_ok_weaker}
use Rattle.kat_model.specs.declared.limits.TheConstants.{MAX_HYPS}
use Rattle.flow_forms.specs.Comparisons.{comparison_tree}
use Rattle.flow_edges.specs.EdgeViews.{flow_action}
use Rattle.flow_abstraction.specs.ActionLists.{facts_of_action}
use Rattle.flow_abstraction.specs.HypothesisViews.{flow_hypothesis}
use Rattle.flow_abstraction.proofs.CappedHypotheses.{capped_then}
use Rattle.flow_abstraction.proofs.assignment.+add_actions_facts.Goals as goal

pub add_actions_facts_from-returns : goal.add_actions_facts_from-returns
add_actions_facts_from-returns t c =
    let facts = facts_of_action c.args.setting.now.sorts.now (map comparison_tree c.args.setting.now.tests.now) in
    on_ok_weaker c.add_actions_facts.result
    (capped_then MAX_HYPS (map flow_hypothesis c.args.list.now.items) (map flow_hypothesis c.add_action_facts.new.list.items) (map flow_hypothesis c.add_actions_facts.new.list.items)
    (facts (c.args.number, flow_action c.args.action.now)) (flat_map facts (enumerate_from (c.args.number + 1) (map flow_action c.args.rest.now)))
    c.in_ok-add_action_facts.ensures)
    c.add_actions_facts.ensures
