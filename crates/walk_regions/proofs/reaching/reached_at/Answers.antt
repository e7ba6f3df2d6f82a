use Rattle.std.proofs.lemmas.Result.{IfOk-weaker}
use Rattle.test_diagrams.proofs.Kept.{KeepsFunctions-trans}
use Rattle.walk_regions.proofs.Marking.{marks_kept, brings_kept, part_of_either, reached_all, reached_or}
use Rattle.walk_regions.proofs.reaching.reached_at.Goals as goal

pub returns-in_default-clause-reached : goal.returns-in_default-clause-reached
returns-in_default-clause-reached c es all m = reached_all c.marked_at.new.diagrams es c.args.universal all c.args.terms.now c.in_ok-all.all (c.in_ok-all.ensures.brings es all m)

pub returns-clause-reached : goal.returns-clause-reached
returns-clause-reached c =
    let d = c.marked_at.new.diagrams in
    let e = c.marked_at-2.new.diagrams in
    IfOk-weaker c.or.result _ _
    (λ id is es all m.
    let later = marks_kept c.args.diagrams.now d c.in_ok-all.ensures.kept es all c.args.marks.now m in
    let then = marks_kept d e c.in_ok-every.ensures.kept es all c.args.marks.now later in
    reached_or e c.or.new.self c.or.ensures.kept es then.tests c.args.universal all c.args.terms.now c.in-Some.term c.in_ok-all.all c.in_ok-every.every id c.in-Some.is is
    (brings_kept d e c.in_ok-every.ensures.kept es later.tests all c.in_ok-all.all c.args.terms.now c.in_ok-all.ensures.part.is_id (c.in_ok-all.ensures.brings es all m))
    (c.in_ok-every.ensures.brings es all later))
    c.or.ensures.function

pub marked_at-requires-2-clause-marks : goal.marked_at-requires-2-clause-marks
marked_at-requires-2-clause-marks c id h = c.in_ok-all.ensures.kept.ids id (c.requires.marks id h)

pub marked_at-requires-2-clause-within : goal.marked_at-requires-2-clause-within
marked_at-requires-2-clause-within c = c.in_ok-all.ensures.kept.ids c.args.within c.requires.within

pub or-requires-clause-left : goal.or-requires-clause-left
or-requires-clause-left c = c.in_ok-every.ensures.kept.ids c.in_ok-all.all c.in_ok-all.ensures.part.is_id

pub or-requires-clause-right : goal.or-requires-clause-right
or-requires-clause-right c = c.in_ok-every.ensures.part.is_id

pub returns-in_err-every-clause-kept : goal.returns-in_err-every-clause-kept
returns-in_err-every-clause-kept c = KeepsFunctions-trans _ _ _ c.in_ok-all.ensures.kept c.in_err-every.ensures.kept

pub returns-clause-kept : goal.returns-clause-kept
returns-clause-kept c = KeepsFunctions-trans _ _ _ c.in_ok-all.ensures.kept (KeepsFunctions-trans _ _ _ c.in_ok-every.ensures.kept c.or.ensures.kept)

pub returns-clause-part : goal.returns-clause-part
returns-clause-part c =
    IfOk-weaker c.or.result _ _
    (λ id is.
    part_of_either c.marked_at.new.diagrams c.marked_at-2.new.diagrams c.or.new.self c.in_ok-every.ensures.kept c.or.ensures.kept c.args.within c.in_ok-all.all c.in_ok-every.every id is
    (c.in_ok-all.ensures.kept.ids c.args.within c.requires.within) c.in_ok-all.ensures.part c.in_ok-every.ensures.part)
    c.or.ensures.function
