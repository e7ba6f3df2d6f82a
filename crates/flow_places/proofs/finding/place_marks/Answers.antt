use Rattle.std.proofs.Common.{◌≡◌, Bool, List, [], ◌∷◌, ◌++◌, length, map, sym, ◌∙◌, ap, arith}
use mathlib.Core.Path.{ap₂}
use Rattle.std.specs.List.{list_any, range_with_len}
use Rattle.std.proofs.lemmas.List.{length-map}
use Rattle.std.proofs.lemmas.List.FromFn.{map-range_with_len_more}
use Rattle.flow_model.specs.Polish.{block_of, graph_of}
use Rattle.flow_places.specs.Walks.{Walk, walk_of}
use Rattle.flow_places.specs.Places.{is_marked, place_test, has_marks}
use Rattle.flow_places.proofs.Walks.{any_reversed}
use Rattle.flow_places.proofs.finding.place_marks.Goals as goal

pub loop-block-preserved : goal.loop-block-preserved
loop-block-preserved c =
    c.in_ok-push.ensures.items
    ∙ ap₂ (λ (xs : List Bool) (b : Bool). xs ++ b ∷ []) c.loop-block.invariant c.is_place.ensures
    ∙ sym (map-range_with_len_more (place_test (walk_of c.in_ok-walk.walk) c.has_marks-marked.result (graph_of c.args.blocks.now)) 0 c.loop-block.block c.loop-block.block (omega arith))

pub returns : goal.returns
returns c =
    let g = graph_of c.args.blocks.now in
    let all : c.loop-block.block ≡ length g = omega (arith, length-map c.args.blocks.now block_of) in
    let marks : c.has_marks-marked.result ≡ has_marks g =
    c.has_marks-marked.ensures
    ∙ ap (λ ks. list_any (is_marked g) ks) c.deref.ensures.value
    ∙ sym (any_reversed (is_marked g) c.in_ok-walk.walk.left.items)
    ∙ ap (λ (w : Walk). list_any (is_marked g) w.left) c.in_ok-walk.ensures in
    c.loop-block.invariant
    ∙ ap (λ n. map (place_test (walk_of c.in_ok-walk.walk) c.has_marks-marked.result g) (range_with_len 0 n)) all
    ∙ ap₂ (λ (w : Walk) (m : Bool). map (place_test w m g) (range_with_len 0 (length g))) c.in_ok-walk.ensures marks
