use Rattle.std.proofs.Common.{ap, arith}
use Rattle.std.specs.List.{position_from}
use Rattle.linear_forms.specs.Sameness.{is_same_comparison}
use Rattle.abstraction.specs.ShownTables.{row_comparisons}
use Rattle.abstraction.proofs.ShownRows.{test_row_count}
use Rattle.abstraction.proofs.shown.comparison_number.Goals as goal

pub loop-row-init : goal.loop-row-init
loop-row-init c =
    let counted = c.declared_tests-number.ensures in
    record {
      rest = ap (λ n. position_from (is_same_comparison c.args.atomic.now) n (row_comparisons c.args.rows.now)) counted;
      count = omega (arith, counted, test_row_count c.args.rows.now);
    }
