use Rattle.std.proofs.Common.{◌≡◌, ◌++◌, map, None}
use Rattle.std.specs.List.{zip}
use Rattle.kat_model.specs.Trees.{kat_tree}
use Rattle.kat_model.specs.Problems.{AreInRange}
use Rattle.kat_report.specs.Shows.{hyps_text}
use Rattle.kat_report.proofs.hyps.put_hyps.Given as goal

-- the text written so far, and the text of the remaining hypotheses
abbrev pub invariant-loop-rule : goal.invariant-loop-rule
invariant-loop-rule l = record {
  text : l.out.items ++ hyps_text l.before (zip l.rule-iterator.a.rest.now (map kat_tree l.rule-iterator.b.rest.now)) ≡ l.initial.out.items ++ hyps_text None (zip l.rules l.problem.hyps);
  in_range : AreInRange l.problem.tests l.problem.actions (map kat_tree l.rule-iterator.b.rest.now);
}
