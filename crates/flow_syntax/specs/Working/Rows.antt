-- The rows of the table of rules.
use Rattle.flow_syntax.specs.Rules.{RuleParts, rule_parts}
use Rattle.flow_syntax.specs.declared.grammar.RuleRow.{RuleRow}

-- the rule of a row
abbrev pub row_parts : RuleRow → RuleParts
row_parts r = rule_parts r.0 r.1 r.2.now
