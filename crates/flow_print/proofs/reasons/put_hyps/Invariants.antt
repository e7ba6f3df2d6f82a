use Rattle.std.proofs.Common.{◌≡◌, ◌++◌, map, drop}
use Rattle.kat_model.specs.Trees.{kat_tree}
use Rattle.kat_model.specs.Problems.{AreInRange}
use Rattle.flow_abstraction.specs.HypothesisViews.{flow_rule}
use Rattle.flow_print.proofs.WrittenTexts.{hyps_text}
use Rattle.flow_print.proofs.reasons.put_hyps.Given as goal

-- the text written so far, and the text of the remaining hypotheses
abbrev pub invariant-loop-number : goal.invariant-loop-number
invariant-loop-number l = record {
  text : l.out.items ++ hyps_text (map flow_rule l.rules) l.number (map kat_tree (drop l.number l.hyps)) ≡ l.initial.out.items ++ hyps_text (map flow_rule l.rules) 0 l.problem.hyps;
  in_range : AreInRange l.problem.tests l.problem.actions (map kat_tree (drop l.number l.hyps));
}
