use Rattle.std.proofs.Common.{◌≡◌, take, length, ap, ◌∙◌, arith}
use Rattle.std.specs.List.{list_any}
use Rattle.std.proofs.lemmas.List.{take_all}
use Rattle.kat_model.specs.Relations.{Table}
use Rattle.string_tables.proofs.Readings.{move_read}
use Rattle.string_tables.proofs.Images.{goes, in_moves}
use Rattle.string_tables.proofs.leaves.follow_action.Goals as goal

pub at-requires : goal.at-requires
at-requires c =
    let shown = c.as_slice-step-items.ensures ∙ ap (λ (t : Table). t.moves) c.table.view_is in
    let within = move_read c.args.table.now c.requires.whole _ c.loop-step.step-index _ _ c.loop-step-test.true shown c.step-item.is c.step.view_is in
    omega (arith, within.0)

pub mark-requires : goal.mark-requires
mark-requires c =
    let shown = c.as_slice-step-items.ensures ∙ ap (λ (t : Table). t.moves) c.table.view_is in
    let within = move_read c.args.table.now c.requires.whole _ c.loop-step.step-index _ _ c.loop-step-test.true shown c.step-item.is c.step.view_is in
    omega (arith, within.1)

pub returns-clause-image : goal.returns-clause-image
returns-clause-image c j lj =
    let moves = c.args.table.now.moves in
    let shown = c.as_slice-step-items.ensures ∙ ap (λ (t : Table). t.moves) c.table.view_is in
    let all : take c.loop-step.step-index moves ≡ moves = take_all c.loop-step.step-index moves (omega (arith, ap length shown)) in
    c.loop-step.invariant.given j lj
    ∙ ap (list_any (goes c.args.table.now.states c.args.row.now c.args.act j)) all
    ∙ in_moves c.args.table.now.states c.args.row.now c.args.act j moves (λ m h. (c.requires.whole.moves m h).0)
