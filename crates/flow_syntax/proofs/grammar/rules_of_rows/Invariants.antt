use Rattle.std.proofs.Common.{◌≡◌, map, take}
use Rattle.flow_syntax.specs.Rules.{parts_of_rules}
use Rattle.flow_syntax.specs.Working.Rows.{row_parts}
use Rattle.flow_syntax.proofs.grammar.rules_of_rows.Given as goal

abbrev pub invariant-loop-row : goal.invariant-loop-row
invariant-loop-row l = parts_of_rules l.list.items ≡ map row_parts (take l.row-index l.rows)
