use Rattle.std.proofs.Common.{false, length, get_or, slice_index_or, sym, ap, ◌∙◌, take_all, rules}
use Rattle.std.proofs.lemmas.Bool.{ltb-true, ltb-false}
use Rattle.flow_model.specs.Polish.{graph_of}
use Rattle.flow_pieces.specs.PieceGraphs.{arrivals_of, has_block}
use Rattle.flow_matches.proofs.MetBlocks.{no_marks, targets_met, nothing_met}
use Rattle.flow_matches.proofs.exits.arrivals_from.Goals.{in-Some+in_ok-arrive_by, in_default}
use Rattle.flow_matches.proofs.exits.arrivals_from.Goals as goal

pub loop-block-init : goal.loop-block-init
loop-block-init c = record {
  marked = λ k. no_marks c.in_ok-vec.field-0.items (length c.args.stops.now) (c.in_ok-vec.ensures.items_if_clones_equal (λ y e. search rules)) k ∙ ap (λ ks. has_block ks k) (sym c.new.ensures.items);
  long = c.in_ok-vec.ensures.len;
  found = c.new.ensures.items;
}

pub loop-block-preserved : goal.loop-block-preserved
loop-block-preserved c =
    elim c.match-get.branch [
      | in-Some+in_ok-arrive_by w ↦ rw w.arrivals-is (record {
        marked = w.in_ok-arrive_by.ensures.marked;
        long = w.arrive_by.ensures.long ∙ c.loop-block.invariant.long;
        found =
            targets_met (λ k. slice_index_or c.args.stops.now k false) c.args.blocks.now c.args.inside.now c.loop-block.block-index c.loop-block-test.true _ c.loop-block.invariant.found
            w.in-Some.found.now w.arrive_by.new.arrivals.blocks.items (ltb-true (get_or c.args.inside.now c.loop-block.block-index 0) (length c.args.blocks.now) (sym w.in-Some.ensures.lookup.0)) w.in-Some.ensures.lookup.1 w.in_ok-arrive_by.ensures.added;
      })
      | in_default w ↦ rw w.arrivals-is (record {
        marked = c.loop-block.invariant.marked;
        long = c.loop-block.invariant.long;
        found =
            nothing_met (λ k. slice_index_or c.args.stops.now k false) c.args.blocks.now c.args.inside.now c.loop-block.block-index c.loop-block-test.true _ c.loop-block.invariant.found
            (ltb-false (get_or c.args.inside.now c.loop-block.block-index 0) (length c.args.blocks.now) (sym w.in_default.ensures.lookup.0));
      })
    ]

pub returns : goal.returns
returns c = record {
  blocks = c.loop-block.invariant.found ∙ ap (arrivals_of (graph_of c.args.blocks.now) (λ k. slice_index_or c.args.stops.now k false)) (take_all c.loop-block.block-index c.args.inside.now c.loop-block-test.false);
  marks = λ k. c.loop-block.invariant.marked k
      ∙ ap (λ ks. has_block ks k) (c.loop-block.invariant.found ∙ ap (arrivals_of (graph_of c.args.blocks.now) (λ k. slice_index_or c.args.stops.now k false)) (take_all c.loop-block.block-index c.args.inside.now c.loop-block-test.false));
}
