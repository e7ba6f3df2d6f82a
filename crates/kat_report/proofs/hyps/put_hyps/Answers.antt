use Rattle.std.proofs.Common.{◌++◌, map, inl, inr, None, ap}
use Rattle.std.proofs.lemmas.List.{nil_from_length}
use Rattle.std.specs.List.{zip}
use Rattle.kat_model.specs.Trees.{kat_tree}
use Rattle.kat_report.specs.Shows.{hyps_text}
use Rattle.kat_report.proofs.WrittenParts.{hyp_written, no_rule_left, no_term_left}
use Rattle.kat_report.proofs.hyps.put_hyps.Goals as goal

pub loop-rule-preserved : goal.loop-rule-preserved
loop-rule-preserved c =
    let problem = c.hyps.ensures.within in
    let more = hyp_written c.args.scope.now c.args.problem.now.tests c.args.problem.now.actions problem.tests problem.actions c.requires
    c.loop-rule.before c.in-Some.rule.now c.loop-rule.rule-iterator.a.rest.now c.next.new.self.a.rest.now
    (kat_tree c.in-Some.hyp.now) (map kat_tree c.loop-rule.rule-iterator.b.rest.now) (map kat_tree c.next.new.self.b.rest.now)
    c.is_new.result (c.args.out.now.items ++ hyps_text None (zip c.args.rules.now c.args.problem.now.hyps)) c.loop-rule.out.items c.put_rule_comment.new.out.items c.put_hyp.new.out.items
    c.in-Some.ensures.steps.0 (ap (map kat_tree) c.in-Some.ensures.steps.1) c.loop-rule.invariant.in_range c.is_new.ensures c.in_ok-put_rule_comment.ensures c.in_ok-put_hyp.ensures c.loop-rule.invariant.text in
    record { text = more.0; in_range = more.1 }

pub returns : goal.returns
returns c =
    elim c.in-None.ensures.steps [
      | inl none ↦ no_rule_left c.loop-rule.before c.loop-rule.rule-iterator.a.rest.now (map kat_tree c.loop-rule.rule-iterator.b.rest.now) _ c.loop-rule.out.items none.1.0 c.loop-rule.invariant.text
      | inr none ↦ no_term_left c.loop-rule.before c.loop-rule.rule-iterator.a.rest.now (map kat_tree c.loop-rule.rule-iterator.b.rest.now) _ c.loop-rule.out.items (ap (map kat_tree) (nil_from_length c.loop-rule.rule-iterator.b.rest.now none.1.0)) c.loop-rule.invariant.text
    ]
