use Rattle.std.proofs.Common.{ap, ◌∙◌}
use Rattle.std.specs.List.{position_from}
use Rattle.linear_forms.specs.Sameness.{is_same_comparison}
use Rattle.abstraction.specs.ShownTables.{declared_tests, row_comparisons}
use Rattle.abstraction.proofs.ShownRows.{position_from-position}
use Rattle.abstraction.proofs.shown.AbstractNumbering.test_number.Goals as goal

pub returns : goal.returns
returns c =
    let same = is_same_comparison c.args.atomic.now in
    let rows = c.self.inside.tests.items in
    rw (← c.self.view_is)
    (c.comparison_number.ensures ∙ ap (λ rs. position_from same (declared_tests rs) (row_comparisons rs)) c.deref.ensures.value ∙ position_from-position same (declared_tests rows) (row_comparisons rows))
