use Rattle.std.proofs.Common.{◌≡◌, take, length, sym, ap, ◌∙◌, subst, arith}
use Rattle.std.proofs.lemmas.Result.{IfOk-weaker}
use Rattle.std.proofs.lemmas.List.{take_all}
use Rattle.kat_model.specs.Members.{Has}
use Rattle.test_diagrams.proofs.Kept.{KeepsFunctions-trans}
use Rattle.walk_regions.specs.Bars.{IsForgotten, IsImageOf}
use Rattle.walk_regions.proofs.Forgetting.{forgotten_kept}
use Rattle.walk_regions.proofs.Images.{image_forgotten}
use Rattle.walk_regions.proofs.ImageTables.{sound_bars_kept}
use Rattle.walk_regions.proofs.bars.Bars.image.Goals as goal

pub returns-then-count-eq0-clause-image : goal.returns-then-count-eq0-clause-image
returns-then-count-eq0-clause-image c =
    let e = c.image_under.new.diagrams in
    let bars = c.args.self.now.bars.items in
    let none : length bars ≡ 0 = omega (arith, c.len-count.ensures, c.if-count-eq0.true) in
    IfOk-weaker c.image_under.result _ _ (λ id im. subst (λ l. IsImageOf e l c.args.region id) (ap (λ n. take n bars) (sym none) ∙ take_all (length bars) bars (omega arith)) im) c.image_under.ensures.image

pub image_under-requires-2-clause-sound : goal.image_under-requires-2-clause-sound
image_under-requires-2-clause-sound c = sound_bars_kept c.args.diagrams.now c.forget.new.diagrams c.in_ok-rest.ensures.kept c.args.self.now c.requires.sound

pub returns-clause-image : goal.returns-clause-image
returns-clause-image c =
    let e = c.image_under-2.new.diagrams in
    let bars = c.args.self.now.bars.items in
    let kept = KeepsFunctions-trans c.args.diagrams.now c.forget.new.diagrams e c.in_ok-rest.ensures.kept c.image_under-2.ensures.kept in
    let sound = sound_bars_kept c.args.diagrams.now e kept c.args.self.now c.requires.sound in
    let f = subst (λ l. IsForgotten c.forget.new.diagrams c.args.region l c.in_ok-rest.rest) c.deref.ensures.value c.in_ok-rest.ensures.forgotten in
    let later = forgotten_kept c.forget.new.diagrams e c.image_under-2.ensures.kept c.args.region c.args.self.now.unasked.items c.in_ok-rest.rest (c.in_ok-rest.ensures.kept.ids c.args.region c.requires.region) f in
    let count : c.len-count.result ≡ length bars = omega (arith, c.len-count.ensures) in
    let whole : take (length bars) bars ≡ bars = take_all (length bars) bars (omega arith) in
    IfOk-weaker c.image_under-2.result _ _ (λ id im. image_forgotten e bars c.args.self.now.unasked.items c.args.region c.in_ok-rest.rest id (λ t m q h. (sound.unasked t m).1 q (subst (λ l. Has l q) (sym whole) h)) later (subst (λ l. IsImageOf e l c.in_ok-rest.rest id) (ap (λ n. take n bars) count ∙ whole) im)) c.image_under-2.ensures.image

pub forget-requires-clause-tests : goal.forget-requires-clause-tests
forget-requires-clause-tests c t h = (c.requires.sound.unasked t (subst (λ l. Has l t) c.deref.ensures.value h)).0

pub image_under-requires-2-clause-region : goal.image_under-requires-2-clause-region
image_under-requires-2-clause-region c = c.in_ok-rest.ensures.forgotten.is_id

pub returns-clause-kept : goal.returns-clause-kept
returns-clause-kept c = KeepsFunctions-trans _ _ _ c.in_ok-rest.ensures.kept c.image_under-2.ensures.kept
