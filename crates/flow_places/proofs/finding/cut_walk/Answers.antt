use Rattle.std.proofs.Common.{◌≡◌, ◌+◌, ℕ, suc, false, Bool, List, [], length, reverse, slice_index_or, if◌then◌else◌, sym, ◌∙◌, ap, arith}
use mathlib.Core.Path.{ap₂}
use Rattle.std.specs.List.{filter, range_with_len}
use Rattle.std.proofs.lemmas.List.{length-map}
use Rattle.flow_model.specs.Polish.{block_of, graph_of}
use Rattle.flow_places.specs.Walks.{Walk, walk_all, walk_from, no_walk}
use Rattle.flow_places.proofs.PlaceMarks.{one_place_more}
use Rattle.flow_places.proofs.finding.cut_walk.Goals as goal

pub loop-block-preserved : goal.loop-block-preserved
loop-block-preserved c =
    let g = graph_of c.args.blocks.now in
    let k = c.loop-block.block in
    let next : suc k ≡ k + 1 = omega arith in
    record {
      walk =
          c.in_ok-walk_from_place.ensures.walk
          ∙ ap₂ (λ (path : List ℕ) (w : Walk). if slice_index_or c.args.marks.now k false then walk_from g (λ j. slice_index_or c.args.marks.now j false) (suc (length g)) (reverse path) k w else w) c.loop-block.invariant.path c.loop-block.invariant.walk
          ∙ sym (one_place_more (walk_from g (λ j. slice_index_or c.args.marks.now j false) (suc (length g)) []) (λ j. slice_index_or c.args.marks.now j false) k no_walk)
          ∙ ap (λ m. walk_all (walk_from g (λ j. slice_index_or c.args.marks.now j false) (suc (length g)) []) (filter (λ j. slice_index_or c.args.marks.now j false) (range_with_len 0 m)) no_walk) next;
      path = c.in_ok-walk_from_place.ensures.path ∙ c.loop-block.invariant.path;
    }

pub returns : goal.returns
returns c =
    let g = graph_of c.args.blocks.now in
    let all : c.loop-block.block ≡ length g = omega (arith, length-map c.args.blocks.now block_of) in
    c.loop-block.invariant.walk
    ∙ ap₂ (λ (ms : List Bool) (n : ℕ). walk_all (walk_from g (λ j. slice_index_or ms j false) (suc (length g)) []) (filter (λ j. slice_index_or ms j false) (range_with_len 0 n)) no_walk) c.requires all
