use Rattle.std.proofs.Common.{ap, ◌∙◌, arith}
use Rattle.kat_model.specs.Relations.{Table}
use Rattle.string_tables.proofs.Readings.{move_read}
use Rattle.string_tables.proofs.leaves.put_action.Goals as goal

pub mark-requires-clause-row : goal.mark-requires-clause-row
mark-requires-clause-row c =
    let shown = c.as_slice-step-items.ensures ∙ ap (λ (t : Table). t.moves) c.table.view_is in
    let within = move_read c.args.table.now c.requires.whole _ c.loop-step.step-index _ _ c.loop-step-test.true shown c.step-item.is c.step.view_is in
    omega (arith, within.0)

pub mark-requires-clause-column : goal.mark-requires-clause-column
mark-requires-clause-column c =
    let shown = c.as_slice-step-items.ensures ∙ ap (λ (t : Table). t.moves) c.table.view_is in
    let within = move_read c.args.table.now c.requires.whole _ c.loop-step.step-index _ _ c.loop-step-test.true shown c.step-item.is c.step.view_is in
    omega (arith, within.1)
