use Rattle.std.proofs.Common.{◌++◌, ◌∙◌, map, sym, ap}
use Rattle.abstraction.specs.Comparisons.{Assignment}
use Rattle.abstraction.specs.declared.rows.ActionRow.{ActionRow}
use Rattle.abstraction.specs.declared.rows.ActionRow.TheVariants.{Assign}
use Rattle.abstraction.proofs.MovedRows.{moved, moved_all}
use Rattle.abstraction.proofs.file_abstract.action_rows.Goals as goal

abbrev assign_row : Assignment → ActionRow
assign_row a = Assign a.var a.form

pub loop-assigned-init : goal.loop-assigned-init
loop-assigned-init c = ap (λ l. c.in_ok-rows.rows.items ++ map assign_row l) c.into_iter-assigned-iterator.ensures.into_iter_gives.0

pub loop-assigned-preserved : goal.loop-assigned-preserved
loop-assigned-preserved c =
    moved assign_row c.loop-assigned.rows.items c.loop-assigned.assigned-iterator.rest.items _ c.loop-assigned.invariant
    c.push.new.self.items c.next.new.self.rest.items c.in-Some.assigned c.action_row.result c.in_ok-push.ensures.items c.action_row.ensures c.in-Some.ensures.steps.0

pub returns : goal.returns
returns c =
    let rest = c.loop-assigned.assigned-iterator.rest in
    moved_all assign_row c.loop-assigned.rows.items rest.items _ c.loop-assigned.invariant (sym rest.ok.0 ∙ c.in-None.ensures.steps.0)
    ∙ ap (λ l. l ++ map assign_row c.args.assignments.items) c.in_ok-rows.ensures
