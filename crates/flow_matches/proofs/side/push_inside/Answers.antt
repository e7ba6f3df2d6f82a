use Rattle.std.proofs.Common.{◌≡◌, ◌<◌, Some, refl, ap, ◌∙◌, sym, subst, get_or, length, map, slice_get, take_all, arith}
use Rattle.std.specs.Prelude.{Vec}
use Rattle.std.proofs.lemmas.Grind.{get_or_default_zero}
use Rattle.std.proofs.lemmas.Option.{slice_get_read, slice_get_past}
use Rattle.kat_model.proofs.Lists.{has_all}
use Rattle.flow_model.specs.Polish.{graph_of}
use Rattle.flow_model.specs.WholeGraphs.{is_whole_block, are_whole_blocks}
use Rattle.flow_pieces.specs.PieceGraphs.{inside, block_at}
use Rattle.flow_model.specs.declared.graph.Block.{Block}
use Rattle.std.specs.declared.alloc.Global.{Global}
use Rattle.flow_matches.specs.Working.SideViews.{AddsBlocks}
use Rattle.flow_matches.proofs.PieceParts.{has_at}
use Rattle.flow_matches.proofs.SideGraphs.{inside_pushed, inside_there}
use Rattle.flow_matches.proofs.side.push_inside.Goals as goal
use Rattle.flow_matches.proofs.side.push_inside.Goals.{in-Some+in_ok-push_copy, in_default}

pub loop-number-preserved : goal.loop-number-preserved
loop-number-preserved c =
    let xs = c.args.side.now.inside.items in
    let i = c.loop-number.number-index in
    let same = c.deref-number-items.ensures.value in
    let lt : i < length xs = omega (arith, c.loop-number-test.true, ap length same) in
    let blocks = c.args.blocks.now in
    let x = get_or c.deref-number-items.result.now i 0 in
    let at : x ≡ get_or xs i x = ap (λ l. get_or l i 0) same ∙ sym (get_or_default_zero xs i x lt) in
    let are_whole = λ (v : Vec Block Global). are_whole_blocks v.items in
    record {
      added = λ s is. elim c.match-get.branch [
        | in-Some+in_ok-push_copy w ↦
            let block = w.in-Some.block.now in
            ap (λ (v : Vec Block Global). graph_of v.items) w.list-is
            ∙ inside_pushed c.args.side.now blocks s is i x block c.args.list.now c.loop-number.list w.push_copy.new.list lt at
            (slice_get_read blocks (length blocks) x block refl (w.in-Some.ensures.lookup.3).0 w.in-Some.ensures.lookup.1)
            (c.loop-number.invariant.added s is) (w.in_ok-push_copy.ensures.added s blocks is)
        | in_default w ↦ absurd (inside_there c.args.side.now blocks s is i x lt at (slice_get_past blocks x w.in_default.ensures.lookup.3))
      ];
      whole = λ whole old. elim c.match-get.branch [
        | in-Some+in_ok-push_copy w ↦
            let block = w.in-Some.block.now in
            let found : slice_get blocks x ≡ Some block = slice_get_read blocks (length blocks) x block refl (w.in-Some.ensures.lookup.3).0 w.in-Some.ensures.lookup.1 in
            ap are_whole w.list-is ∙ w.in_ok-push_copy.ensures.whole (has_all is_whole_block blocks whole block (has_at blocks x block found)) (c.loop-number.invariant.whole whole old)
        | in_default w ↦ ap are_whole w.list-is ∙ c.loop-number.invariant.whole whole old
      ];
    }

pub returns-clause-added : goal.returns-clause-added
returns-clause-added c = λ s is.
    subst (λ ks. AddsBlocks c.args.list.now c.loop-number.list (map (λ k. block_at s (inside k)) ks))
    (take_all c.loop-number.number-index c.args.side.now.inside.items (omega (arith, c.loop-number-test.false, ap length c.deref-number-items.ensures.value)) ∙ is.inside)
    (c.loop-number.invariant.added s is)
