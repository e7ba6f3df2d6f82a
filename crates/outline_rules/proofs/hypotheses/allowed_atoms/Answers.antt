use Rattle.std.proofs.Common.{◌≡◌, ◌<◌, arith}
use Rattle.outline_rules.proofs.StepSets.{KeepsSteps-trans}
use Rattle.outline_rules.proofs.HypothesisSets.{allowed_more, allowed_all}
use Rattle.outline_rules.proofs.hypotheses.allowed_atoms.Goals as goal

pub loop-hyp-preserved : goal.loop-hyp-preserved
loop-hyp-preserved c = record {
  function = allowed_more c.loop-hyp.diagrams c.atoms_left_by.new.diagrams c.in_ok-set.ensures.kept c.args.hyps.now c.loop-hyp.hyp-index c.hyp-item.result (omega arith) c.hyp-item.is
      c.args.moment c.loop-hyp.set c.in_ok-set.set c.loop-hyp.invariant.function c.in_ok-set.ensures.function;
  kept = KeepsSteps-trans _ _ _ c.loop-hyp.invariant.kept c.in_ok-set.ensures.kept;
  sound = c.in_ok-set.ensures.sound;
}

pub returns-in_err-set-clause-kept : goal.returns-in_err-set-clause-kept
returns-in_err-set-clause-kept c = KeepsSteps-trans _ _ _ c.loop-hyp.invariant.kept c.in_err-set.ensures.kept

pub returns-clause-function : goal.returns-clause-function
returns-clause-function c = allowed_all c.loop-hyp.diagrams c.args.hyps.now c.loop-hyp.hyp-index c.loop-hyp.set c.args.moment (omega arith) c.loop-hyp.invariant.function
