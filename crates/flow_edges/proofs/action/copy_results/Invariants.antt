use Rattle.std.proofs.Common.{◌≡◌, map, take}
use Rattle.flow_ways.specs.WayTrees.{sorted_form}
use Rattle.flow_edges.proofs.action.copy_results.Given as goal

-- the copies so far
abbrev pub invariant-loop-sorted : goal.invariant-loop-sorted
invariant-loop-sorted l = map sorted_form l.list.items ≡ map sorted_form (take l.sorted-index l.results)
