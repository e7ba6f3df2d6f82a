use Rattle.std.proofs.Common.{ap, ◌∙◌, map, take_all}
use Rattle.flow_ways.specs.WayTrees.{sorted_form}
use Rattle.flow_edges.proofs.MappedLists.{mapped_next}
use Rattle.flow_edges.proofs.action.copy_results.Goals as goal

pub loop-sorted-preserved : goal.loop-sorted-preserved
loop-sorted-preserved c =
    mapped_next sorted_form sorted_form c.args.results.now c.loop-sorted.sorted-index c.sorted-item.result _ _ _
    c.loop-sorted-test.true c.loop-sorted.invariant c.in_ok-append.ensures (c.in_ok-copy_result.ensures ∙ ap sorted_form c.sorted-item.is)

pub returns : goal.returns
returns c = c.loop-sorted.invariant ∙ ap (map sorted_form) (take_all c.loop-sorted.sorted-index c.args.results.now c.loop-sorted-test.false)
