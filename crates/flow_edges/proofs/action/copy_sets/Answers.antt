use Rattle.std.proofs.Common.{ap, ◌∙◌, map, take_all}
use Rattle.flow_ways.specs.ActionTrees.{set_tree}
use Rattle.flow_edges.proofs.MappedLists.{mapped_next}
use Rattle.flow_edges.proofs.action.copy_sets.Goals as goal

pub loop-set-preserved : goal.loop-set-preserved
loop-set-preserved c =
    mapped_next set_tree set_tree c.args.sets.now c.loop-set.set-index c.set-item.result _ _ _
    c.loop-set-test.true c.loop-set.invariant c.in_ok-append.ensures (c.in_ok-copy_set.ensures ∙ ap set_tree c.set-item.is)

pub returns : goal.returns
returns c = c.loop-set.invariant ∙ ap (map set_tree) (take_all c.loop-set.set-index c.args.sets.now c.loop-set-test.false)
