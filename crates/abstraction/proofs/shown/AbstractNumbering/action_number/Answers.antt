use Rattle.std.proofs.Common.{ap, ◌∙◌}
use Rattle.std.specs.List.{position_from}
use Rattle.abstraction.specs.Tables.{is_same_assignment}
use Rattle.abstraction.specs.ShownTables.{declared_actions, row_assignments}
use Rattle.abstraction.proofs.ShownRows.{position_from-position}
use Rattle.abstraction.proofs.shown.AbstractNumbering.action_number.Goals as goal

pub returns : goal.returns
returns c =
    let same = is_same_assignment c.args.assignment.now in
    let rows = c.self.inside.actions.items in
    rw (← c.self.view_is)
    (c.assignment_number.ensures ∙ ap (λ rs. position_from same (declared_actions rs) (row_assignments rs)) c.deref.ensures.value ∙ position_from-position same (declared_actions rows) (row_assignments rows))
