use Rattle.std.proofs.Common.{◌∷◌, ◌++◌, [], map, ap, ◌∙◌}
use mathlib.Core.Path.{ap₂}
use Rattle.flow_forms.specs.Comparisons.{comparison_tree}
use Rattle.flow_ways.specs.Conditions.{FlowCondTree, atom}
use Rattle.flow_ways.specs.CondTrees.{cond_tree}
use Rattle.flow_edges.specs.EdgeViews.{flow_action, flow_edge}
use Rattle.flow_edges.proofs.SplitLists.{more_tests}
use Rattle.flow_edges.proofs.splits.where_equal.Goals as goal

pub returns : goal.returns
returns c =
    more_tests (flow_edge c.args.edge.now) (map cond_tree c.push_test.new.list.items) (atom (comparison_tree c.args.comparison.now) ∷ []) (flow_action c.args.action)
    (c.in_ok-push_test.ensures
    ∙ ap₂ (λ bs (b : FlowCondTree). bs ++ b ∷ []) (c.in_ok-tests.ensures ∙ ap (map cond_tree) c.deref.ensures.value) (ap atom c.in_ok-copy.ensures))
