use Rattle.std.proofs.Common.{◌≡◌, drop}
use Rattle.flow_syntax.specs.Rules.{parts_of_rules, begins}
use Rattle.flow_syntax.proofs.reading.begins.Given as goal

abbrev pub invariant-loop-rule : goal.invariant-loop-rule
invariant-loop-rule l = begins (parts_of_rules (drop l.rule-index l.rules)) l.phrase l.terminal ≡ begins (parts_of_rules l.rules) l.phrase l.terminal
