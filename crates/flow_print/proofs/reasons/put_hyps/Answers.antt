use Rattle.std.proofs.Common.{◌+◌, ◌++◌, map, drop, refl}
use Rattle.kat_model.specs.Trees.{kat_tree}
use Rattle.flow_abstraction.specs.HypothesisViews.{flow_rule}
use Rattle.flow_print.proofs.WrittenLists.{all_written}
use Rattle.flow_print.proofs.WrittenTexts.{hyps_text, hyps_left, hyp_written}
use Rattle.flow_print.proofs.reasons.put_hyps.Goals as goal

pub loop-number-preserved : goal.loop-number-preserved
loop-number-preserved c =
    let problem = c.hyps-hyps.ensures.within in
    let hyps = c.hyps-hyps.result.now in
    let rules = map flow_rule c.args.rules.now in
    let more = hyp_written c.args.scope.now c.args.problem.now.tests c.args.problem.now.actions problem.tests problem.actions c.requires rules c.loop-number.number
    (kat_tree c.index-hyps-number.result) (map kat_tree (drop c.loop-number.number hyps)) (map kat_tree (drop (c.loop-number.number + 1) hyps))
    (c.args.out.now.items ++ hyps_text rules 0 c.args.problem.now.hyps) c.loop-number.out.items c.put_comment.new.out.items c.put_hyp.new.out.items
    (hyps_left hyps c.loop-number.number c.index-hyps-number.result c.loop-number-test.true c.index-hyps-number.is)
    c.loop-number.invariant.in_range c.in_ok-put_comment.ensures c.in_ok-put_hyp.ensures c.loop-number.invariant.text in
    record { text = more.0; in_range = more.1 }

pub returns : goal.returns
returns c =
    all_written kat_tree (hyps_text (map flow_rule c.args.rules.now) c.loop-number.number) refl c.hyps-hyps.result.now c.loop-number.number c.loop-number.out.items _ c.loop-number-test.false c.loop-number.invariant.text
