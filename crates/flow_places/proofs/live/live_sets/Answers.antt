use Rattle.std.proofs.Common.{◌≡◌, suc, ◌+◌, length, sym, ◌∙◌, subst, arith}
use Rattle.std.proofs.lemmas.List.{length-map}
use Rattle.flow_model.specs.Polish.{block_of, graph_of}
use Rattle.flow_places.specs.Tables.{noted, IsSwept, IsNoted}
use Rattle.flow_places.proofs.Sweeps.{none_noted, noted_more, noted_all, noted_is_live}
use Rattle.flow_places.proofs.live.live_sets.Goals as goal

pub loop-round-init : goal.loop-round-init
loop-round-init c =
    record {
      rows = c.in_ok-table.ensures.rows;
      live = λ x h. none_noted (graph_of c.args.blocks.now) x (noted c.in_ok-table.table.items x) (λ k. c.in_ok-table.ensures.none x k);
    }

pub returns-then-not-changed : goal.returns-then-not-changed
returns-then-not-changed c = λ k x h.
    let g = graph_of c.args.blocks.now in
    let same = c.in_ok-changed.ensures.unchanged c.if-not-changed.true in
    noted_is_live g x k (noted c.sweep.new.table.items x)
    (noted_all g x c.loop-round._round (length g) (noted c.sweep.new.table.items x)
    (subst (λ t. IsNoted g x c.loop-round._round (noted t x)) (sym same) (c.loop-round.invariant.live x h))
    (subst (λ t. IsSwept g x 0 (noted t x) (noted c.sweep.new.table.items x)) (sym same) (c.in_ok-changed.ensures.swept x h)))

pub loop-round-preserved : goal.loop-round-preserved
loop-round-preserved c =
    let g = graph_of c.args.blocks.now in
    let next : suc c.loop-round._round ≡ c.loop-round._round + 1 = omega arith in
    record {
      rows = c.in_ok-changed.ensures.rows ∙ c.loop-round.invariant.rows;
      live = λ x h.
          subst (λ n. IsNoted g x n (noted c.sweep.new.table.items x)) next
          (noted_more g x c.loop-round._round (noted c.loop-round.table.items x) (noted c.sweep.new.table.items x) (c.loop-round.invariant.live x h) (c.in_ok-changed.ensures.swept x h));
    }

pub returns : goal.returns
returns c = λ k x h.
    let g = graph_of c.args.blocks.now in
    let all : c.loop-round._round ≡ length g = omega (arith, length-map c.args.blocks.now block_of, c.loop-round-test.false) in
    noted_is_live g x k (noted c.loop-round.table.items x) (subst (λ n. IsNoted g x n (noted c.loop-round.table.items x)) all (c.loop-round.invariant.live x h))
