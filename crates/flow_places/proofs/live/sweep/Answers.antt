use Rattle.std.proofs.Common.{◌≡◌, suc, ◌+◌, ◌-◌, ◌<◌, ◌||◌, false, length, sym, ◌∙◌, ap, subst, arith}
use Rattle.flow_model.specs.Polish.{graph_of}
use Rattle.flow_places.specs.Live.{live_at_block}
use Rattle.flow_places.specs.Tables.{noted, IsSwept}
use Rattle.flow_places.proofs.Sweeps.{one_swept, block_there, both_false}
use Rattle.flow_places.proofs.live.sweep.Goals as goal

pub loop-step-preserved : goal.loop-step-preserved
loop-step-preserved c =
    let g = graph_of c.args.blocks.now in
    let k = length c.args.blocks.now - (c.loop-step.step + 1) in
    let before : length c.args.blocks.now - c.loop-step.step ≡ suc k = omega (arith, c.loop-step-test.true) in
    let inside : k < length c.args.blocks.now = omega (arith, c.loop-step-test.true) in
    record {
      rows = c.in_ok-one.ensures.rows ∙ c.loop-step.invariant.rows;
      swept = λ x h.
          one_swept g x k (noted c.args.table.now.items x) (noted c.loop-step.table.items x) (noted c.update.new.table.items x)
          (subst (λ n. IsSwept g x n (noted c.args.table.now.items x) (noted c.loop-step.table.items x)) before (c.loop-step.invariant.swept x h))
          (c.in_ok-one.ensures.here x h
          ∙ ap (λ o. live_at_block x (noted c.loop-step.table.items x) o || noted c.loop-step.table.items x k) (sym (block_there c.args.blocks.now k c.index-blocks-number.result inside c.index-blocks-number.is)))
          (λ j n. c.in_ok-one.ensures.elsewhere x j n);
      unchanged = λ e.
          let both : (c.loop-step.changed ≡ false) × (c.in_ok-one.one ≡ false) = both_false c.loop-step.changed c.in_ok-one.one (sym c.either-changed.ensures ∙ e) in
          c.in_ok-one.ensures.unchanged both.1 ∙ c.loop-step.invariant.unchanged both.0;
    }

pub returns-clause-swept : goal.returns-clause-swept
returns-clause-swept c = λ x h.
    let end : length c.args.blocks.now - c.loop-step.step ≡ 0 = omega (arith, c.loop-step-test.false) in
    subst (λ k. IsSwept (graph_of c.args.blocks.now) x k (noted c.args.table.now.items x) (noted c.loop-step.table.items x)) end (c.loop-step.invariant.swept x h)
