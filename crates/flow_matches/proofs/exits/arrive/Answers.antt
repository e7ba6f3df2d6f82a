use Rattle.std.proofs.Common.{false, slice_index_or, sym, ap, ◌∙◌, arith}
use Rattle.std.proofs.lemmas.Bool.{false≢true}
use Rattle.std.proofs.lemmas.List.{get_or_read, get_or_past}
use Rattle.flow_pieces.specs.PieceGraphs.{has_block}
use Rattle.flow_matches.proofs.MetBlocks.{no_arrival, old_arrival, new_arrival, marked_more}
use Rattle.flow_matches.proofs.exits.arrive.Goals.{else-has_mark-via-then-has_mark+then-block-len+else-not-index, else-has_mark-via-then-has_mark+else-block-len, else-has_mark-via-else-has_mark}
use Rattle.flow_matches.proofs.exits.arrive.Goals as goal

pub returns-in_ok-push-clause-marked : goal.returns-in_ok-push-clause-marked
returns-in_ok-push-clause-marked c = λ k.
    marked_more c.args.arrivals.now.marks.items c.args.arrivals.now.blocks.items c.args.block c.requires.marked (let long = c.args.arrivals.now.marks.ok.0 in omega (arith, long)) k
    ∙ ap (λ ks. has_block ks k) (sym c.in_ok-push.ensures.items)

pub returns-in_ok-push-clause-added : goal.returns-in_ok-push-clause-added
returns-in_ok-push-clause-added c =
    c.in_ok-push.ensures.items
    ∙ new_arrival (λ k. slice_index_or c.args.stops.now k false) c.args.arrivals.now.blocks.items c.args.block (sym c.has_mark.ensures ∙ c.if-has_mark.true)
    (sym (c.requires.marked c.args.block)
    ∙ sym (get_or_read c.args.arrivals.now.marks.items c.args.block c.index.result.now (let long = c.args.arrivals.now.marks.ok.0 in omega (arith, long)) c.index.ensures false)
    ∙ c.if-not-index.true)

pub returns-else-has_mark-clause-added : goal.returns-else-has_mark-clause-added
returns-else-has_mark-clause-added c =
    elim c.else-has_mark.branch [
      | else-has_mark-via-then-has_mark+then-block-len+else-not-index w ↦
          old_arrival (λ k. slice_index_or c.args.stops.now k false) c.args.arrivals.now.blocks.items c.args.block (sym c.has_mark.ensures ∙ w.if-has_mark.true)
          (sym (c.requires.marked c.args.block)
          ∙ sym (get_or_read c.args.arrivals.now.marks.items c.args.block w.index.result.now (let long = c.args.arrivals.now.marks.ok.0 in omega (arith, long)) w.index.ensures false)
          ∙ w.if-not-index.false)
      | else-has_mark-via-then-has_mark+else-block-len w ↦
          absurd (false≢true (sym (get_or_past c.args.stops.now c.args.block false (omega arith)) ∙ sym c.has_mark.ensures ∙ w.if-has_mark.true))
      | else-has_mark-via-else-has_mark w ↦ no_arrival (λ k. slice_index_or c.args.stops.now k false) c.args.arrivals.now.blocks.items c.args.block (sym c.has_mark.ensures ∙ w.if-has_mark.false)
    ]
