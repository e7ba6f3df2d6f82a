use Rattle.std.proofs.Common.{◌&&◌, ◌++◌, map, ap, ◌∙◌, take_all}
use Rattle.std.specs.List.{list_all}
use Rattle.flow_model.specs.Polish.{cond_part}
use Rattle.flow_model.specs.WholeGraphs.{has_whole_sides}
use Rattle.flow_matches.proofs.PushedLists.{mapped_push}
use Rattle.flow_matches.proofs.WholeParts.{all_copied}
use Rattle.flow_matches.proofs.copies.push_cond.Goals as goal

pub loop-node-preserved : goal.loop-node-preserved
loop-node-preserved c =
    let xs = c.args.nodes.now in
    let i = c.loop-node.node-index in
    let x = c.node-item.result in
    let old = c.loop-node.list.items in
    let new = c.append.new.list.items in
    let copy = c.in_ok-copy_cond_node.field-0 in
    record {
      parts = mapped_push cond_part cond_part (map cond_part c.args.list.now.items) xs i x old new copy c.loop-node-test.true c.in_ok-append.ensures (c.in_ok-copy_cond_node.ensures.part ∙ ap cond_part c.node-item.is) c.loop-node.invariant.parts;
      whole = all_copied has_whole_sides (list_all has_whole_sides c.args.list.now.items) xs i old new x copy c.loop-node-test.true c.in_ok-append.ensures c.in_ok-copy_cond_node.ensures.whole c.node-item.is c.loop-node.invariant.whole;
    }

pub returns-clause-parts : goal.returns-clause-parts
returns-clause-parts c = c.loop-node.invariant.parts ∙ ap (λ ns. map cond_part c.args.list.now.items ++ map cond_part ns) (take_all c.loop-node.node-index c.args.nodes.now c.loop-node-test.false)

pub returns-clause-whole : goal.returns-clause-whole
returns-clause-whole c = c.loop-node.invariant.whole ∙ ap (λ ns. list_all has_whole_sides c.args.list.now.items && list_all has_whole_sides ns) (take_all c.loop-node.node-index c.args.nodes.now c.loop-node-test.false)
