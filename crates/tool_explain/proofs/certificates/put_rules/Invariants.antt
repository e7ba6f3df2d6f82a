use Rattle.std.proofs.Common.{◌≡◌, ◌++◌, map, None}
use Rattle.std.specs.List.{zip}
use Rattle.kat_model.specs.Trees.{kat_tree}
use Rattle.text_print.specs.Printing.{name_of}
use Rattle.tool_explain.specs.Certificates.{rules_text}
use Rattle.tool_explain.proofs.certificates.put_rules.Given as goal

-- the text written so far, and the text of the remaining hypotheses
abbrev pub invariant-loop-rule : goal.invariant-loop-rule
invariant-loop-rule l =
    l.out.items ++ rules_text (name_of l.scope) l.shown l.before (zip l.rule-iterator.a.rest.now (map kat_tree l.rule-iterator.b.rest.now))
    ≡ l.initial.out.items ++ rules_text (name_of l.scope) l.shown None (zip l.rules (map kat_tree l.hyps))
