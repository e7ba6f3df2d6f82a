use Rattle.std.proofs.Common.{◌≡◌, ◌++◌, [], ◌∷◌, ℕ, List, false, length, filter, slice_index_or, if◌then◌else◌, sym, ◌∙◌, ap, arith}
use Rattle.std.specs.List.{range_with_len}
use Rattle.flow_abstraction.proofs.PlacedRows.{one_more}
use Rattle.flow_abstraction.proofs.placed.place_list.Goals as goal

pub loop-block-preserved : goal.loop-block-preserved
loop-block-preserved c =
    c.in_ok-push_place.ensures
    ∙ ap (λ (ks : List ℕ). ks ++ (if slice_index_or c.args.places.now c.loop-block.block false then c.loop-block.block ∷ [] else [])) c.loop-block.invariant
    ∙ sym (one_more (λ k. slice_index_or c.args.places.now k false) c.loop-block.block)

pub returns : goal.returns
returns c =
    let all : c.loop-block.block ≡ length c.args.places.now = omega arith in
    c.loop-block.invariant ∙ ap (λ n. filter (λ k. slice_index_or c.args.places.now k false) (range_with_len 0 n)) all
