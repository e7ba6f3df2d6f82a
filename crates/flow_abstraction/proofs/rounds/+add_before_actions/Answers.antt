-- What comes of the first action, then of the others.
use Rattle.std.proofs.Common.{map, flat_map}
use Rattle.std.proofs.lemmas.Result.{on_ok_weaker}
use Rattle.flow_forms.specs.Comparisons.{comparison_tree}
use Rattle.flow_edges.specs.EdgeViews.{flow_action}
use Rattle.flow_problem.specs.FlowRounds.{comparisons_before}
use Rattle.flow_abstraction.proofs.GrownTables.{table_then}
use Rattle.flow_abstraction.proofs.rounds.+add_before_actions.Goals as goal

pub add_before_actions_from-returns : goal.add_before_actions_from-returns
add_before_actions_from-returns t c =
    let before = comparisons_before c.args.sorts.now (map comparison_tree c.args.comparisons.now) in
    on_ok_weaker c.add_before_actions.result
    (table_then (map comparison_tree c.args.table.now.items) (map comparison_tree c.add_before_action.new.table.items) (map comparison_tree c.add_before_actions.new.table.items)
    (before (flow_action c.args.first.now)) (flat_map before (map flow_action c.args.rest.now))
    c.in_ok-add_before_action.ensures)
    c.add_before_actions.ensures
