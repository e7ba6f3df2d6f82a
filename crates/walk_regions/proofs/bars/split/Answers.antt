use Rattle.std.proofs.Common.{not, ◌&&◌, ◌<◌, sym, ◌∙◌, subst}
use Rattle.kat_model.specs.Members.{Has}
use Rattle.test_diagrams.proofs.Kept.{KeepsFunctions-trans}
use Rattle.walk_regions.specs.Bars.{IsForgotten}
use Rattle.walk_regions.proofs.Forgetting.{forgotten_kept}
use Rattle.walk_regions.proofs.KeptValues.{of_two_kept}
use Rattle.walk_regions.proofs.bars.split.Goals as goal

pub returns-clause-split : goal.returns-clause-split
returns-clause-split c =
    let a = c.args.diagrams.now in
    let b = c.and.new.self in
    let d = c.forget.new.diagrams in
    let e = c.and_not.new.diagrams in
    let f = c.forget-2.new.diagrams in
    let ab = c.in_ok-start.ensures.kept in
    let bd = c.in_ok-inside.ensures.kept in
    let de = c.in_ok-other.ensures.kept in
    let ef = c.in_ok-outside.ensures.kept in
    let df = KeepsFunctions-trans d e f de ef in
    let bf = KeepsFunctions-trans b d f bd df in
    let af = KeepsFunctions-trans a b f ab bf in
    let ad = KeepsFunctions-trans a b d ab bd in
    record {
      start = c.in_ok-start.start;
      other = c.in_ok-other.other;
      is_start = of_two_kept (λ x y. x && y) a b f af bf c.args.region c.args.bar.now.from c.in_ok-start.start c.requires.region c.requires.from c.in_ok-start.ensures.function;
      is_other = of_two_kept (λ x y. x && not y) d e f df ef c.args.region c.args.bar.now.from c.in_ok-other.other (ad.ids c.args.region c.requires.region) (ad.ids c.args.bar.now.from c.requires.from) c.in_ok-other.ensures.function;
      inside = forgotten_kept d f df c.in_ok-start.start c.args.bar.now.fresh.items c.in_ok-inside.inside (bd.ids c.in_ok-start.start c.in_ok-start.ensures.function.in_range) (subst (λ l. IsForgotten d c.in_ok-start.start l c.in_ok-inside.inside) c.deref.ensures.value c.in_ok-inside.ensures.forgotten);
      outside = subst (λ l. IsForgotten f c.in_ok-other.other l c.in_ok-outside.outside) c.deref-2.ensures.value c.in_ok-outside.ensures.forgotten;
    }

pub forget-requires-clause-whole : goal.forget-requires-clause-whole
forget-requires-clause-whole c = c.in_ok-start.ensures.function.in_range

pub forget-requires-clause-tests : goal.forget-requires-clause-tests
forget-requires-clause-tests c t h = subst (λ n. t < n) (sym c.in_ok-start.ensures.kept.tests) (c.requires.fresh t (subst (λ l. Has l t) c.deref.ensures.value h))

pub and_not-requires-clause-first : goal.and_not-requires-clause-first
and_not-requires-clause-first c = c.in_ok-inside.ensures.kept.ids c.args.region (c.in_ok-start.ensures.kept.ids c.args.region c.requires.region)

pub and_not-requires-clause-second : goal.and_not-requires-clause-second
and_not-requires-clause-second c = c.in_ok-inside.ensures.kept.ids c.args.bar.now.from (c.in_ok-start.ensures.kept.ids c.args.bar.now.from c.requires.from)

pub forget-requires-2-clause-whole : goal.forget-requires-2-clause-whole
forget-requires-2-clause-whole c = c.in_ok-other.ensures.function.in_range

pub forget-requires-2-clause-tests : goal.forget-requires-2-clause-tests
forget-requires-2-clause-tests c t h = subst (λ n. t < n) (sym (c.in_ok-other.ensures.kept.tests ∙ c.in_ok-inside.ensures.kept.tests ∙ c.in_ok-start.ensures.kept.tests)) (c.requires.fresh t (subst (λ l. Has l t) c.deref-2.ensures.value h))

pub returns-in_err-inside-clause-kept : goal.returns-in_err-inside-clause-kept
returns-in_err-inside-clause-kept c = KeepsFunctions-trans _ _ _ c.in_ok-start.ensures.kept c.in_err-inside.ensures.kept

pub returns-in_err-other-clause-kept : goal.returns-in_err-other-clause-kept
returns-in_err-other-clause-kept c = KeepsFunctions-trans _ _ _ c.in_ok-start.ensures.kept (KeepsFunctions-trans _ _ _ c.in_ok-inside.ensures.kept c.in_err-other.ensures.kept)

pub returns-in_err-outside-clause-kept : goal.returns-in_err-outside-clause-kept
returns-in_err-outside-clause-kept c = KeepsFunctions-trans _ _ _ c.in_ok-start.ensures.kept (KeepsFunctions-trans _ _ _ c.in_ok-inside.ensures.kept (KeepsFunctions-trans _ _ _ c.in_ok-other.ensures.kept c.in_err-outside.ensures.kept))

pub returns-clause-kept : goal.returns-clause-kept
returns-clause-kept c = KeepsFunctions-trans _ _ _ c.in_ok-start.ensures.kept (KeepsFunctions-trans _ _ _ c.in_ok-inside.ensures.kept (KeepsFunctions-trans _ _ _ c.in_ok-other.ensures.kept c.in_ok-outside.ensures.kept))
