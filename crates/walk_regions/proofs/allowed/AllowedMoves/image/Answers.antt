use Rattle.std.proofs.Common.{◌&&◌, refl}
use Rattle.std.specs.Vec.{with_item}
use Rattle.std.proofs.lemmas.Result.{IfOk-weaker}
use Rattle.test_diagrams.proofs.Kept.{KeepsFunctions-itself, KeepsFunctions-trans}
use Rattle.walk_regions.proofs.KeptValues.{of_two_kept}
use Rattle.walk_regions.proofs.Allowances.{allowance_kept}
use Rattle.walk_regions.proofs.AllowedImages.{bars_at, allowed_image, allowance_set, within_kept}
use Rattle.walk_regions.proofs.ImageTables.{image_kept, sound_bars_kept}
use Rattle.walk_regions.proofs.allowed.AllowedMoves.image.Goals as goal

pub image-requires-clause-sound : goal.image-requires-clause-sound
image-requires-clause-sound c =
    let at = bars_at c.args.self.now c.args.act c.index_mut.result.now c.requires.act c.index_mut.ensures.value in
    (c.requires.moves.1.moves c.args.act c.index_mut.result.now at).sound

pub returns-clause-kept : goal.returns-clause-kept
returns-clause-kept c = KeepsFunctions-trans _ _ _ c.in_ok-led_to.ensures.kept c.and.ensures.kept

pub returns-clause-image : goal.returns-clause-image
returns-clause-image c =
    let a = c.args.diagrams.now in
    let b = c.image.new.diagrams in
    let d = c.and.new.self in
    let ad = returns-clause-kept c in
    let own = c.index_mut.result.now in
    let at = bars_at c.args.self.now c.args.act own c.requires.act c.index_mut.ensures.value in
    let first = c.requires.moves.1.moves c.args.act own at in
    let sound = sound_bars_kept a b c.in_ok-led_to.ensures.kept own first.sound in
    let image = image_kept b d c.and.ensures.kept own.bars.items own.bars.items sound.bars (λ r h. h) c.args.region c.in_ok-led_to.led_to (c.in_ok-led_to.ensures.kept.ids c.args.region c.requires.region) c.in_ok-led_to.ensures.image in
    let in_b = c.in_ok-led_to.ensures.kept.ids c.args.self.now.allowed c.requires.moves.1.allowed.in_range in
    IfOk-weaker c.and.result _ _
    (λ id is shorts actions all within.
    allowed_image d shorts actions c.args.self.now (allowance_kept a d ad shorts actions c.args.self.now all) c.args.act own at c.args.region
    (within_kept a d ad c.args.region c.args.self.now.allowed c.requires.region all.allowed.in_range within) c.in_ok-led_to.led_to id image
    (of_two_kept (λ x y. x && y) b d d c.and.ensures.kept (KeepsFunctions-itself d) c.in_ok-led_to.led_to c.args.self.now.allowed id c.in_ok-led_to.ensures.image.is_id in_b is))
    c.and.ensures.function

pub returns-clause-moves : goal.returns-clause-moves
returns-clause-moves c =
    let a = c.args.diagrams.now in
    let d = c.and.new.self in
    let ad = returns-clause-kept c in
    let own = c.index_mut.result.now in
    let new = c.image.new.self in
    let at = bars_at c.args.self.now c.args.act own c.requires.act c.index_mut.ensures.value in
    IfOk-weaker c.and.result _ _
    (λ id is shorts actions all.
    allowance_set d shorts actions c.args.self.now (allowance_kept a d ad shorts actions c.args.self.now all) c.args.act own at new
    (record { allowed = c.args.self.now.allowed; actions = with_item c.args.self.now.actions c.args.act new }) c.in_ok-led_to.ensures.bars (sound_bars_kept c.image.new.diagrams d c.and.ensures.kept new c.in_ok-led_to.ensures.sound) refl refl)
    c.and.ensures.function

pub and-requires-clause-left : goal.and-requires-clause-left
and-requires-clause-left c = c.in_ok-led_to.ensures.image.is_id

pub and-requires-clause-right : goal.and-requires-clause-right
and-requires-clause-right c = c.in_ok-led_to.ensures.kept.ids c.args.self.now.allowed c.requires.moves.1.allowed.in_range
