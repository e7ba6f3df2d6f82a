use Rattle.std.proofs.Common.{List, map, option_map, ap, ◌∙◌, take_all}
use Rattle.flow_forms.specs.declared.comparison.FlowComparison.{FlowComparison}
use Rattle.flow_forms.specs.Comparisons.{comparison_tree}
use Rattle.flow_problem.specs.FlowFacts.{interval_of}
use Rattle.flow_abstraction.specs.IntervalViews.{interval_tree}
use Rattle.flow_edges.proofs.MappedLists.{mapped_more}
use Rattle.flow_abstraction.proofs.facts.intervals_of.Goals as goal

pub loop-test-preserved : goal.loop-test-preserved
loop-test-preserved c =
    mapped_more interval_of comparison_tree (option_map interval_tree) c.args.tests.now c.loop-test.test-index c.test-item.result _ _ _
    c.loop-test-test.true c.loop-test.invariant c.in_ok-append.ensures (c.in_ok-interval_of.ensures ∙ ap (λ t. interval_of (comparison_tree t)) c.test-item.is)

pub returns : goal.returns
returns c = c.loop-test.invariant ∙ ap (λ (ts : List FlowComparison). map interval_of (map comparison_tree ts)) (take_all c.loop-test.test-index c.args.tests.now c.loop-test-test.false)
