use Rattle.std.proofs.Common.{◌++◌, map, inl, inr, None, ap}
use Rattle.std.proofs.lemmas.List.{nil_from_length}
use Rattle.std.specs.List.{zip}
use Rattle.kat_model.specs.Trees.{kat_tree}
use Rattle.text_print.specs.Printing.{name_of}
use Rattle.tool_explain.specs.Certificates.{rules_text}
use Rattle.tool_explain.proofs.WrittenRules.{rule_written, no_rule_left, no_term_left}
use Rattle.tool_explain.proofs.certificates.put_rules.Goals as goal

pub loop-rule-preserved : goal.loop-rule-preserved
loop-rule-preserved c =
    let names = name_of c.args.scope.now in
    let shown = c.args.shown.now in
    rule_written names shown c.loop-rule.before c.in-Some.rule.now c.loop-rule.rule-iterator.a.rest.now c.next.new.self.a.rest.now
    (kat_tree c.in-Some.hyp.now) (map kat_tree c.loop-rule.rule-iterator.b.rest.now) (map kat_tree c.next.new.self.b.rest.now)
    c.is_new.result (c.args.out.now.items ++ rules_text names shown None (zip c.args.rules.now (map kat_tree c.args.hyps.now))) c.loop-rule.out.items c.put_new_rule.new.out.items
    c.in-Some.ensures.steps.0 (ap (map kat_tree) c.in-Some.ensures.steps.1) c.is_new.ensures c.in_ok-put_new_rule.ensures c.loop-rule.invariant

pub returns : goal.returns
returns c =
    let names = name_of c.args.scope.now in
    let shown = c.args.shown.now in
    elim c.in-None.ensures.steps [
      | inl none ↦ no_rule_left names shown c.loop-rule.before c.loop-rule.rule-iterator.a.rest.now (map kat_tree c.loop-rule.rule-iterator.b.rest.now) _ c.loop-rule.out.items none.1.0 c.loop-rule.invariant
      | inr none ↦ no_term_left names shown c.loop-rule.before c.loop-rule.rule-iterator.a.rest.now (map kat_tree c.loop-rule.rule-iterator.b.rest.now) _ c.loop-rule.out.items (ap (map kat_tree) (nil_from_length c.loop-rule.rule-iterator.b.rest.now none.1.0)) c.loop-rule.invariant
    ]
