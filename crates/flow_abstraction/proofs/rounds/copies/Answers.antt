use Rattle.std.proofs.Common.{map, ap, ◌∙◌, take_all}
use Rattle.flow_forms.specs.Comparisons.{comparison_tree}
use Rattle.flow_edges.proofs.MappedLists.{mapped_next}
use Rattle.flow_abstraction.proofs.rounds.copies.Goals as goal

pub loop-comparison-preserved : goal.loop-comparison-preserved
loop-comparison-preserved c =
    mapped_next comparison_tree comparison_tree c.args.comparisons.now c.loop-comparison.comparison-index c.comparison-item.result _ _ _
    c.loop-comparison-test.true c.loop-comparison.invariant c.in_ok-append.ensures (c.in_ok-copy.ensures ∙ ap comparison_tree c.comparison-item.is)

pub returns : goal.returns
returns c = c.loop-comparison.invariant ∙ ap (map comparison_tree) (take_all c.loop-comparison.comparison-index c.args.comparisons.now c.loop-comparison-test.false)
