use Rattle.std.proofs.Common.{◌&&◌, ◌++◌, map, ap, ◌∙◌}
use Rattle.std.specs.List.{list_all}
use Rattle.flow_model.specs.Polish.{cond_part}
use Rattle.flow_model.specs.WholeGraphs.{has_whole_sides}
use Rattle.flow_matches.proofs.WholeParts.{same_cond}
use Rattle.flow_matches.proofs.copies.copy_cond.Goals as goal

pub returns-clause-whole : goal.returns-clause-whole
returns-clause-whole c =
    same_cond c.push_cond.new.list.items c.args.nodes.now
    (c.in_ok-push_cond.ensures.parts ∙ ap (λ ns. map cond_part ns ++ map cond_part c.args.nodes.now) c.new-copy.ensures.items)
    (c.in_ok-push_cond.ensures.whole ∙ ap (λ ns. list_all has_whole_sides ns && list_all has_whole_sides c.args.nodes.now) c.new-copy.ensures.items)
