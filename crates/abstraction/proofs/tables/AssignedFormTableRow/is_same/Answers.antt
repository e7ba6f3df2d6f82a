use Rattle.abstraction.proofs.tables.AssignedFormTableRow.is_same.Goals as goal

pub returns : goal.returns
returns c = rw (← c.other.view_is) c.assigns.ensures
