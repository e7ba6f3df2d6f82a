use Rattle.std.proofs.Common.{◌≡◌, ◌≢◌, ◌-◌, ◌<◌, false, take, length, refl, sym, ap, ◌∙◌, subst, arith}
use Rattle.std.proofs.lemmas.Bool.{eqb-true, eqb-false}
use Rattle.kat_model.proofs.Places.{has_at}
use Rattle.test_diagrams.specs.Functions.{DiagramsParts, IsDiagramOf, KeepsFunctions}
use Rattle.test_diagrams.proofs.Kept.{KeepsFunctions-itself, KeepsFunctions-trans}
use Rattle.walk_regions.specs.Bars.{IsImageOf}
use Rattle.walk_regions.proofs.Images.{image_never, image_free}
use Rattle.walk_regions.proofs.ImageTables.{sound_bars_kept, sound_bars_with}
use Rattle.walk_regions.proofs.ImageSteps.{bar_at, image_joined}
use Rattle.walk_regions.proofs.bars.Bars.+image_under.Goals as goal

pub returns-then-count-eq0-clause-image : goal.returns-then-count-eq0-clause-image
returns-then-count-eq0-clause-image t c =
    let d = c.args.diagrams.now in
    let none : c.args.count ≡ 0 = omega arith in
    let differ : c.args.region ≢ c.constant.result = eqb-false c.args.region c.constant.result (sym c.eq.ensures ∙ c.if-eq.false) in
    subst (λ n. IsImageOf d (take n c.args.self.now.bars.items) c.args.region c.constant-then-count-eq0.result) (sym none)
    (image_free d c.args.region c.constant-then-count-eq0.result c.constant.result c.constant.ensures.reduced c.requires.region c.constant-then-count-eq0.ensures.function c.constant.ensures.function differ)

pub split-requires-clause-from : goal.split-requires-clause-from
split-requires-clause-from t c =
    let bars = c.args.self.now.bars.items in
    let lt : c.args.count - 1 < length bars = omega arith in
    c.requires.sound.bars.froms c.index-bar.result.now (has_at bars (c.args.count - 1) c.index-bar.result.now (bar_at bars (c.args.count - 1) c.index-bar.result.now lt c.index-bar.ensures))

pub split-requires-clause-fresh : goal.split-requires-clause-fresh
split-requires-clause-fresh t c =
    let bars = c.args.self.now.bars.items in
    let lt : c.args.count - 1 < length bars = omega arith in
    λ k h. (c.requires.sound.bars.fresh (c.args.count - 1) c.index-bar.result.now (bar_at bars (c.args.count - 1) c.index-bar.result.now lt c.index-bar.ensures) k h).0

pub image_under-requires : goal.image_under-requires
image_under-requires t c = (
  omega arith,
  (sound_bars_kept c.args.diagrams.now c.split.new.diagrams c.in_ok-parts.ensures.kept c.args.self.now c.requires.sound, (c.in_ok-parts.ensures.split.inside.is_id, omega arith)),
)

pub and_not-requires-clause-second : goal.and_not-requires-clause-second
and_not-requires-clause-second t c =
    let bars = c.args.self.now.bars.items in
    let lt : c.args.count - 1 < length bars = omega arith in
    (KeepsFunctions-trans c.args.diagrams.now c.split.new.diagrams c.image_under.new.diagrams c.in_ok-parts.ensures.kept c.in_ok-within.ensures.kept).ids c.index-bar.result.now.to
    (c.requires.sound.bars.tos c.index-bar.result.now (has_at bars (c.args.count - 1) c.index-bar.result.now (bar_at bars (c.args.count - 1) c.index-bar.result.now lt c.index-bar.ensures)))

pub image_under-requires-2 : goal.image_under-requires-2
image_under-requires-2 t c =
    let bars : length c.image_under.new.self.bars.items ≡ length c.args.self.now.bars.items = ap (λ b. length b.items) c.in_ok-within.ensures.bars in (
      omega arith,
      (
        sound_bars_kept c.image_under.new.diagrams c.and_not.new.diagrams c.in_ok-kept.ensures.kept c.image_under.new.self c.in_ok-within.ensures.sound,
        (
          (KeepsFunctions-trans c.split.new.diagrams c.image_under.new.diagrams c.and_not.new.diagrams c.in_ok-within.ensures.kept c.in_ok-kept.ensures.kept).ids c.in_ok-parts.parts.outside c.in_ok-parts.ensures.split.outside.is_id,
          omega arith,
        ),
      ),
    )

-- functions are kept over all steps
all_kept : (a b e f : DiagramsParts) → KeepsFunctions a b → KeepsFunctions b e → KeepsFunctions e f → KeepsFunctions a f
all_kept a b e f ab be ef = KeepsFunctions-trans a b f ab (KeepsFunctions-trans b e f be ef)

pub returns-in_err-kept-clause-kept : goal.returns-in_err-kept-clause-kept
returns-in_err-kept-clause-kept t c = all_kept _ _ _ _ c.in_ok-parts.ensures.kept c.in_ok-within.ensures.kept c.in_err-kept.ensures.kept

pub returns-in_err-free-clause-kept : goal.returns-in_err-free-clause-kept
returns-in_err-free-clause-kept t c = KeepsFunctions-trans _ _ _ (all_kept _ _ _ _ c.in_ok-parts.ensures.kept c.in_ok-within.ensures.kept c.in_ok-kept.ensures.kept) c.in_err-free.ensures.kept

pub returns-in_err-id-clause-kept : goal.returns-in_err-id-clause-kept
returns-in_err-id-clause-kept t c =
    KeepsFunctions-trans _ _ _ (all_kept _ _ _ _ c.in_ok-parts.ensures.kept c.in_ok-within.ensures.kept c.in_ok-kept.ensures.kept)
    (KeepsFunctions-trans _ _ _ c.in_ok-free.ensures.kept c.in_err-id.ensures.kept)

pub returns-in_err-note_image-clause-kept : goal.returns-in_err-note_image-clause-kept
returns-in_err-note_image-clause-kept t c =
    KeepsFunctions-trans _ _ _ (all_kept _ _ _ _ c.in_ok-parts.ensures.kept c.in_ok-within.ensures.kept c.in_ok-kept.ensures.kept)
    (KeepsFunctions-trans _ _ _ c.in_ok-free.ensures.kept c.in_ok-id.ensures.kept)

pub returns-clause-kept : goal.returns-clause-kept
returns-clause-kept t c =
    KeepsFunctions-trans _ _ _ (all_kept _ _ _ _ c.in_ok-parts.ensures.kept c.in_ok-within.ensures.kept c.in_ok-kept.ensures.kept)
    (KeepsFunctions-trans _ _ _ c.in_ok-free.ensures.kept c.in_ok-id.ensures.kept)

pub returns-clause-image : goal.returns-clause-image
returns-clause-image t c =
    let bars = c.args.self.now.bars.items in
    let lt : c.args.count - 1 < length bars = omega arith in
    let free = subst (λ l. IsImageOf c.image_under-2.new.diagrams (take (c.args.count - 1) l) c.in_ok-parts.parts.outside c.in_ok-free.free) (ap (λ b. b.items) c.in_ok-within.ensures.bars) c.in_ok-free.ensures.image in
    image_joined c.args.diagrams.now c.split.new.diagrams c.image_under.new.diagrams c.and_not.new.diagrams c.image_under-2.new.diagrams c.or.new.self
    c.in_ok-parts.ensures.kept c.in_ok-within.ensures.kept c.in_ok-kept.ensures.kept c.in_ok-free.ensures.kept c.in_ok-id.ensures.kept
    bars c.requires.sound.bars (c.args.count - 1) c.index-bar.result.now lt c.index-bar.ensures c.args.region c.requires.region c.in_ok-parts.parts
    c.in_ok-within.within c.in_ok-kept.kept c.in_ok-free.free c.in_ok-id.id c.args.count (omega arith) c.in_ok-parts.ensures.split c.in_ok-within.ensures.image c.in_ok-kept.ensures.function free c.in_ok-id.ensures.function

pub returns-clause-sound : goal.returns-clause-sound
returns-clause-sound t c =
    let later = sound_bars_kept c.image_under-2.new.diagrams c.or.new.self c.in_ok-id.ensures.kept c.image_under-2.new.self c.in_ok-free.ensures.sound in
    let same = c.in_ok-free.ensures.bars ∙ c.in_ok-within.ensures.bars in
    let image = subst (λ l. IsImageOf c.or.new.self (take c.args.count l.items) c.args.region c.in_ok-id.id) (sym same) (returns-clause-image t c) in
    sound_bars_with c.or.new.self c.image_under-2.new.self c.note_image.new.self c.in_ok-note_image.ensures.bars c.in_ok-note_image.ensures.unasked
    (c.in_ok-note_image.ensures.images c.or.new.self later.images ((returns-clause-kept t c).ids c.args.region c.requires.region) image) later

pub returns-then-eq-clause-image : goal.returns-then-eq-clause-image
returns-then-eq-clause-image t c =
    let d = c.args.diagrams.now in
    let same : c.args.region ≡ c.constant.result = eqb-true c.args.region c.constant.result (sym c.eq.ensures ∙ c.if-eq.true) in
    image_never d (take c.args.count c.args.self.now.bars.items) c.args.region (subst (λ i. IsDiagramOf d i (λ a. false)) (sym same) c.constant.ensures.function)

pub and_not-requires-clause-first : goal.and_not-requires-clause-first
and_not-requires-clause-first t c = c.in_ok-within.ensures.image.is_id

pub or-requires-clause-left : goal.or-requires-clause-left
or-requires-clause-left t c = c.in_ok-free.ensures.kept.ids c.in_ok-kept.kept c.in_ok-kept.ensures.function.in_range

pub or-requires-clause-right : goal.or-requires-clause-right
or-requires-clause-right t c = c.in_ok-free.ensures.image.is_id

pub returns-in_err-within-clause-kept : goal.returns-in_err-within-clause-kept
returns-in_err-within-clause-kept t c = KeepsFunctions-trans _ _ _ c.in_ok-parts.ensures.kept c.in_err-within.ensures.kept

pub returns-clause-bars : goal.returns-clause-bars
returns-clause-bars t c = c.in_ok-note_image.ensures.bars ∙ c.in_ok-free.ensures.bars ∙ c.in_ok-within.ensures.bars

pub returns-then-eq-clause-sound : goal.returns-then-eq-clause-sound
returns-then-eq-clause-sound t c = c.requires.sound

pub returns-then-eq-clause-bars : goal.returns-then-eq-clause-bars
returns-then-eq-clause-bars t c = refl

pub returns-then-eq-clause-kept : goal.returns-then-eq-clause-kept
returns-then-eq-clause-kept t c = KeepsFunctions-itself c.args.diagrams.now

pub returns-then-count-eq0-clause-sound : goal.returns-then-count-eq0-clause-sound
returns-then-count-eq0-clause-sound t c = c.requires.sound

pub returns-then-count-eq0-clause-bars : goal.returns-then-count-eq0-clause-bars
returns-then-count-eq0-clause-bars t c = refl

pub returns-then-count-eq0-clause-kept : goal.returns-then-count-eq0-clause-kept
returns-then-count-eq0-clause-kept t c = KeepsFunctions-itself c.args.diagrams.now

pub split-requires-clause-region : goal.split-requires-clause-region
split-requires-clause-region t c = c.requires.region

pub returns-in_err-parts-clause-kept : goal.returns-in_err-parts-clause-kept
returns-in_err-parts-clause-kept t c = c.in_err-parts.ensures.kept

pub returns-in-Some-clause-image : goal.returns-in-Some-clause-image
returns-in-Some-clause-image t c = c.in-Some.ensures c.args.diagrams.now c.requires.sound.images

pub returns-in-Some-clause-sound : goal.returns-in-Some-clause-sound
returns-in-Some-clause-sound t c = c.requires.sound

pub returns-in-Some-clause-bars : goal.returns-in-Some-clause-bars
returns-in-Some-clause-bars t c = refl

pub returns-in-Some-clause-kept : goal.returns-in-Some-clause-kept
returns-in-Some-clause-kept t c = KeepsFunctions-itself c.args.diagrams.now
