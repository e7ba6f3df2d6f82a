use Rattle.std.proofs.Common.{◌≡◌, map, take}
use Rattle.flow_ways.specs.ActionTrees.{set_tree}
use Rattle.flow_edges.proofs.action.copy_sets.Given as goal

-- the copies so far
abbrev pub invariant-loop-set : goal.invariant-loop-set
invariant-loop-set l = map set_tree l.list.items ≡ map set_tree (take l.set-index l.sets)
