use Rattle.std.proofs.Common.{map, ap, ◌∙◌}
use Rattle.std.proofs.lemmas.List.{take_all}
use Rattle.flow_syntax.specs.Working.Rows.{row_parts}
use Rattle.flow_syntax.proofs.RowLists.{one_more_row}
use Rattle.flow_syntax.proofs.grammar.rules_of_rows.Goals as goal

pub loop-row-preserved : goal.loop-row-preserved
loop-row-preserved c = one_more_row c.args.rows.now c.loop-row.row-index _ _ _ c.loop-row-test.true c.loop-row.invariant c.in_ok-push_rule.ensures

pub returns : goal.returns
returns c = c.loop-row.invariant ∙ ap (map row_parts) (take_all c.loop-row.row-index c.args.rows.now c.loop-row-test.false)
