use Rattle.std.proofs.Common.{ap, ◌++◌, map, ◌∙◌, take_all}
use Rattle.flow_forms.specs.Comparisons.{comparison_tree}
use Rattle.flow_problem.specs.Splits.{cell_test, cell_tests}
use Rattle.flow_edges.specs.CellTests.{cell_test_tree}
use Rattle.flow_edges.proofs.MappedLists.{listed_more}
use Rattle.flow_edges.proofs.splits.cell_test.cell_tests.Goals as goal

pub loop-comparison-preserved : goal.loop-comparison-preserved
loop-comparison-preserved c =
    listed_more (cell_test c.args.sorts.now) comparison_tree c.args.tests.now c.loop-comparison.comparison-index c.comparison-item.result _ _
    c.loop-comparison-test.true c.loop-comparison.invariant
    (c.in_ok-push_if_any.ensures
    ∙ ap (λ ts. map cell_test_tree c.loop-comparison.list.items ++ ts) (c.in_ok-cell_test.ensures ∙ ap (λ d. cell_test c.args.sorts.now (comparison_tree d)) c.comparison-item.is))

pub returns : goal.returns
returns c =
    c.loop-comparison.invariant
    ∙ ap (λ ts. cell_tests c.args.sorts.now (map comparison_tree ts)) (take_all c.loop-comparison.comparison-index c.args.tests.now c.loop-comparison-test.false)
