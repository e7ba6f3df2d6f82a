use Rattle.std.proofs.Common.{◌<◌, refl, sym, subst}
use Rattle.std.proofs.lemmas.Result.{IfOk-weaker}
use Rattle.walk_regions.specs.Allowance.{IsAllowance}
use Rattle.walk_under.specs.declared.walk.TestedWorklist.{TestedWorklist}
use Rattle.walk_under.proofs.Visiting.{region_within, open_at}
use Rattle.walk_under.proofs.walk.TestedWorklist.open_atoms.Goals as goal

pub image-requires-clause-moves : goal.image-requires-clause-moves
image-requires-clause-moves c =
    let s = c.requires.0 in
    let a = c.requires.2.under_way.allowance in
    (s.shorts, subst (λ n. IsAllowance c.args.self.now.diagrams s.shorts n c.args.self.now.moves) (sym a.count) a)

pub image-requires-clause-region : goal.image-requires-clause-region
image-requires-clause-region c = c.requires.3.region

pub image-requires-clause-act : goal.image-requires-clause-act
image-requires-clause-act c = subst (λ n. c.args.source.now.act < n) (sym c.requires.2.under_way.allowance.count) c.requires.2.of_actions

pub unlisted_part-requires-clause-tests : goal.unlisted_part-requires-clause-tests
unlisted_part-requires-clause-tests c e h = c.image.ensures.kept.ids e.test (c.requires.2.under_way.entries e h).test

pub unlisted_part-requires-clause-within : goal.unlisted_part-requires-clause-within
unlisted_part-requires-clause-within c =
    let s = c.requires.0 in
    (c.in_ok-image.ensures.image s.shorts s.problem.actions c.requires.2.under_way.allowance (region_within s c.args.self.now c.args.source.now c.requires.1 c.args.part.now c.requires.2 c.requires.3)).is_id

pub open_part-requires-clause-tests : goal.open_part-requires-clause-tests
open_part-requires-clause-tests c e h = c.in_ok-fresh.ensures.kept.ids e.test (c.image.ensures.kept.ids e.test (c.requires.2.under_way.entries e h).test)

pub open_part-requires-clause-within : goal.open_part-requires-clause-within
open_part-requires-clause-within c = c.in_ok-fresh.ensures.part.is_id

pub returns : goal.returns
returns c =
    let w : TestedWorklist = c.args.self.now in
    let x : TestedWorklist = record { listing = w.listing; moves = c.image.new.self; diagrams = c.open_part.new.diagrams; derivatives = w.derivatives } in
    IfOk-weaker c.open_part.result _ _
    (λ id is s from represents next.
    open_at s w x c.args.source.now from c.args.part.now represents next c.image.new.diagrams c.unlisted_part.new.diagrams c.in_ok-image.ensures.kept c.in_ok-fresh.ensures.kept c.open_part.ensures.kept
    refl refl c.in_ok-image.ensures.allowed (c.in_ok-image.ensures.moves s.shorts s.problem.actions represents.under_way.allowance) c.in_ok-image.image c.in_ok-fresh.fresh id
    (c.in_ok-image.ensures.image s.shorts s.problem.actions represents.under_way.allowance (region_within s w c.args.source.now from c.args.part.now represents next))
    (rw (c.deref.ensures.value, c.deref-2.ensures.value) at c.in_ok-fresh.ensures.part)
    (rw (c.deref-3.ensures.value, c.deref-4.ensures.value, c.deref-5.ensures.value, c.deref-6.ensures.value) at is))
    c.open_part.ensures.part
