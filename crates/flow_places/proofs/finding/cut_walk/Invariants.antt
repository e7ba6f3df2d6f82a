use Rattle.std.proofs.Common.{◌≡◌, suc, false, [], length, slice_index_or}
use Rattle.std.specs.List.{filter, range_with_len}
use Rattle.flow_model.specs.Polish.{graph_of}
use Rattle.flow_places.specs.Walks.{walk_all, walk_from, walk_of, no_walk}
use Rattle.flow_places.proofs.finding.cut_walk.Given as goal

abbrev pub invariant-loop-block : goal.invariant-loop-block
invariant-loop-block l =
    record {
      walk : walk_of l.walk ≡ walk_all (walk_from (graph_of l.blocks) (λ k. slice_index_or l.marks k false) (suc (length (graph_of l.blocks))) []) (filter (λ k. slice_index_or l.marks k false) (range_with_len 0 l.block)) no_walk;
      path : l.path.items ≡ [];
    }
