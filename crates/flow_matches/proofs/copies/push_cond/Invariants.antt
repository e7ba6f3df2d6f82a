use Rattle.std.proofs.Common.{◌≡◌, ◌&&◌, ◌++◌, map, take}
use Rattle.std.specs.List.{list_all}
use Rattle.flow_model.specs.Polish.{cond_part}
use Rattle.flow_model.specs.WholeGraphs.{has_whole_sides}
use Rattle.flow_matches.proofs.copies.push_cond.Given as goal

-- the copies so far
abbrev pub invariant-loop-node : goal.invariant-loop-node
invariant-loop-node l = record {
  parts : map cond_part l.list.items ≡ map cond_part l.initial.list.items ++ map cond_part (take l.node-index l.nodes);
  whole : list_all has_whole_sides l.list.items ≡ (list_all has_whole_sides l.initial.list.items && list_all has_whole_sides (take l.node-index l.nodes));
}
