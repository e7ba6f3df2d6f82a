use Rattle.std.proofs.Common.{ap, arith}
use Rattle.std.specs.List.{position_from}
use Rattle.abstraction.specs.Tables.{is_same_assignment}
use Rattle.abstraction.specs.ShownTables.{row_assignments}
use Rattle.abstraction.proofs.ShownRows.{action_row_count}
use Rattle.abstraction.proofs.shown.assignment_number.Goals as goal

pub loop-row-init : goal.loop-row-init
loop-row-init c =
    let counted = c.declared_actions-number.ensures in
    record {
      rest = ap (λ n. position_from (is_same_assignment c.args.assignment.now) n (row_assignments c.args.rows.now)) counted;
      count = omega (arith, counted, action_row_count c.args.rows.now);
    }
