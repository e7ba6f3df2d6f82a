use Rattle.std.proofs.Common.{◌≡◌, ◌++◌, map}
use Rattle.abstraction.specs.Comparisons.{Assignment}
use Rattle.abstraction.specs.declared.rows.ActionRow.{ActionRow}
use Rattle.abstraction.specs.declared.rows.ActionRow.TheVariants.{Assign}
use Rattle.abstraction.proofs.file_abstract.action_rows.Given as goal

abbrev assign_row : Assignment → ActionRow
assign_row a = Assign a.var a.form

-- the rows so far, and the remaining ones
abbrev pub invariant-loop-assigned : goal.invariant-loop-assigned
invariant-loop-assigned l = l.rows.items ++ map assign_row l.assigned-iterator.rest.items ≡ l.initial.rows.items ++ map assign_row l.fn.assignments.items
