use Rattle.std.proofs.Common.{◌+◌, ◌<◌, List, Bool, refl, ap, ◌∙◌, length, length-set, arith}
use Rattle.kat_model.specs.Trees.{kat_tree}
use Rattle.kat_model.specs.Relations.{Table}
use Rattle.string_tables.specs.Working.Filled.{Filled}
use Rattle.string_tables.specs.Working.Matrices.{Square}
use Rattle.string_tables.proofs.Rooms.{same_room, below_room, rows_count}
use Rattle.string_tables.proofs.Images.{marked_alone, image_decides}
use Rattle.string_tables.proofs.levels.Levels.relates.Goals as goal

pub returns-clause-relates : goal.returns-clause-relates
returns-clause-relates c =
    let n = c.args.table.now.states in
    let states = ap (λ (t : Table). t.states) c.table.view_is in
    let room : c.args.i < length c.clear.new.self = omega (arith, ap (λ (f : Filled). f.room.states) c.self.view_is) in
    let alone = marked_alone n c.args.i c.clear.new.self c.mark.new.self room (rw states at c.clear.ensures.cleared) c.mark.ensures in
    image_decides c.args.table.now (kat_tree c.args.term.now) c.mark.new.self c.follow.new.row c.args.i c.args.j c.requires.from c.requires.to alone c.follow.ensures.image c.at.result c.at.ensures

pub clear-requires : goal.clear-requires
clear-requires c =
    same_room _ _ _ _ (ap (λ (t : Table). t.states) c.table.view_is) (c.self.invariant.set_width ∙ ap (λ (f : Filled). f.room.states) c.self.view_is) c.requires.queried.states

pub mark-requires : goal.mark-requires
mark-requires c =
    let width = c.clear.ensures.width ∙ c.self.invariant.set_width ∙ ap (λ (f : Filled). f.room.states) c.self.view_is in
    below_room _ _ _ _ c.requires.from width c.requires.queried.states

pub follow-requires-clause-whole : goal.follow-requires-clause-whole
follow-requires-clause-whole c = c.requires.queried.whole

pub follow-requires-clause-tests : goal.follow-requires-clause-tests
follow-requires-clause-tests c = c.requires.queried.tests

pub follow-requires-clause-height : goal.follow-requires-clause-height
follow-requires-clause-height c =
    let count = ap (λ (ms : List Square). length ms + 1) c.deref_mut-2.ensures.value in
    same_room _ _ _ _ refl (count ∙ ap (λ (f : Filled). f.room.depth) c.self.view_is) c.requires.queried.height

pub follow-requires-clause-rows_height : goal.follow-requires-clause-rows_height
follow-requires-clause-rows_height c =
    let count = ap (λ (rs : List (List Bool)). length rs + 1) c.deref_mut.ensures.value ∙ ap (λ k. k + 1) (rows_count _ _ _ c.self.invariant.row_widths) in
    same_room _ _ _ _ refl (count ∙ ap (λ (f : Filled). f.room.depth) c.self.view_is) c.requires.queried.height

pub follow-requires-clause-row : goal.follow-requires-clause-row
follow-requires-clause-row c =
    let width = ap length c.mark.ensures ∙ length-set _ _ _ ∙ c.clear.ensures.width ∙ c.self.invariant.set_width in
    same_room _ _ _ _ refl (width ∙ ap (λ (f : Filled). f.room.states) c.self.view_is) c.requires.queried.states

pub follow-requires-clause-top : goal.follow-requires-clause-top
follow-requires-clause-top c = same_room _ _ _ _ refl (ap (λ (f : Filled). f.room.states) c.self.view_is) c.requires.queried.states

pub follow-requires-clause-spare : goal.follow-requires-clause-spare
follow-requires-clause-spare c =
    same_room _ _ _ _ refl (c.self.invariant.width ∙ ap (λ (f : Filled). f.room.states) c.self.view_is) c.requires.queried.states
