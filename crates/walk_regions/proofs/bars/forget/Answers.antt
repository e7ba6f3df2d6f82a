use Rattle.std.proofs.Common.{◌<◌, ℕ, get_or, sym, ◌∙◌, subst}
use Rattle.kat_model.specs.Members.{Has}
use Rattle.kat_model.proofs.Places.{has_at}
use Rattle.std.proofs.lemmas.Option.{slice_get-get_or}
use Rattle.test_diagrams.proofs.Kept.{KeepsFunctions-itself, KeepsFunctions-trans}
use Rattle.walk_regions.proofs.Forgetting.{forgotten_none, forgotten_kept, forgotten_more}
use Rattle.walk_regions.proofs.bars.forget.Goals as goal

pub loop-test-init : goal.loop-test-init
loop-test-init c = record {
  kept = KeepsFunctions-itself c.args.diagrams.now;
  forgotten = forgotten_none c.args.diagrams.now c.args.whole c.args.tests.now c.requires.whole;
}

pub fix-requires-clause-in_range : goal.fix-requires-clause-in_range
fix-requires-clause-in_range c =
    let t : ℕ = get_or c.args.tests.now c.loop-test.test-index 0 in
    let h : Has c.args.tests.now t = has_at c.args.tests.now c.loop-test.test-index t (slice_get-get_or c.args.tests.now c.loop-test.test-index 0 c.loop-test-test.true) in
    subst (λ n. t < n) (sym c.loop-test.invariant.kept.tests) (c.requires.tests t h)

pub fix-requires-in-loop-test-clause-in_range : goal.fix-requires-in-loop-test-clause-in_range
fix-requires-in-loop-test-clause-in_range c =
    let t : ℕ = get_or c.args.tests.now c.loop-test.test-index 0 in
    let h : Has c.args.tests.now t = has_at c.args.tests.now c.loop-test.test-index t (slice_get-get_or c.args.tests.now c.loop-test.test-index 0 c.loop-test-test.true) in
    subst (λ n. t < n) (sym (c.in_ok-low.ensures.kept.tests ∙ c.loop-test.invariant.kept.tests)) (c.requires.tests t h)

pub loop-test-preserved : goal.loop-test-preserved
loop-test-preserved c =
    let t : ℕ = get_or c.args.tests.now c.loop-test.test-index 0 in
    let h : Has c.args.tests.now t = has_at c.args.tests.now c.loop-test.test-index t (slice_get-get_or c.args.tests.now c.loop-test.test-index 0 c.loop-test-test.true) in
    let before = c.loop-test.invariant in
    let all = KeepsFunctions-trans c.loop-test.diagrams c.fix.new.self c.or.new.self c.in_ok-low.ensures.kept (KeepsFunctions-trans c.fix.new.self c.fix-in-loop-test.new.self c.or.new.self c.in_ok-high.ensures.kept c.in_ok-id.ensures.kept) in
    record {
      kept = KeepsFunctions-trans c.args.diagrams.now c.loop-test.diagrams c.or.new.self before.kept all;
      forgotten =
          forgotten_more c.loop-test.diagrams c.fix.new.self c.fix-in-loop-test.new.self c.or.new.self c.loop-test.id t c.in_ok-low.low c.in_ok-high.high c.in_ok-id.id
          c.in_ok-low.ensures.kept c.in_ok-high.ensures.kept c.in_ok-id.ensures.kept before.forgotten.is_id c.in_ok-low.ensures.function c.in_ok-high.ensures.function c.in_ok-id.ensures.function c.args.whole c.args.tests.now h
          (forgotten_kept c.loop-test.diagrams c.or.new.self all c.args.whole c.args.tests.now c.loop-test.id (before.kept.ids c.args.whole c.requires.whole) before.forgotten);
    }

pub fix-requires-clause-id : goal.fix-requires-clause-id
fix-requires-clause-id c = c.loop-test.invariant.forgotten.is_id

pub fix-requires-in-loop-test-clause-id : goal.fix-requires-in-loop-test-clause-id
fix-requires-in-loop-test-clause-id c = c.in_ok-low.ensures.kept.ids c.loop-test.id c.loop-test.invariant.forgotten.is_id

pub or-requires-clause-left : goal.or-requires-clause-left
or-requires-clause-left c = c.in_ok-high.ensures.kept.ids c.in_ok-low.low c.in_ok-low.ensures.function.in_range

pub or-requires-clause-right : goal.or-requires-clause-right
or-requires-clause-right c = c.in_ok-high.ensures.function.in_range

pub returns-in_err-low-clause-kept : goal.returns-in_err-low-clause-kept
returns-in_err-low-clause-kept c = KeepsFunctions-trans _ _ _ c.loop-test.invariant.kept c.in_err-low.ensures.kept

pub returns-in_err-high-clause-kept : goal.returns-in_err-high-clause-kept
returns-in_err-high-clause-kept c = KeepsFunctions-trans _ _ _ c.loop-test.invariant.kept (KeepsFunctions-trans _ _ _ c.in_ok-low.ensures.kept c.in_err-high.ensures.kept)

pub returns-in_err-id-clause-kept : goal.returns-in_err-id-clause-kept
returns-in_err-id-clause-kept c = KeepsFunctions-trans _ _ _ c.loop-test.invariant.kept (KeepsFunctions-trans _ _ _ c.in_ok-low.ensures.kept (KeepsFunctions-trans _ _ _ c.in_ok-high.ensures.kept c.in_err-id.ensures.kept))
