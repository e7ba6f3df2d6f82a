use Rattle.std.proofs.lemmas.Bool.{both_ways}
use Rattle.std.proofs.lemmas.Result.{IfOk-weaker}
use Rattle.test_diagrams.specs.Functions.{value_of}
use Rattle.test_diagrams.proofs.Kept.{KeepsFunctions-itself, KeepsFunctions-trans}
use Rattle.walk_regions.proofs.Marking.{open_part}
use Rattle.walk_regions.proofs.listing.Listing.open_part.Goals as goal

pub returns-then-not-may_join-clause-part : goal.returns-then-not-may_join-clause-part
returns-then-not-may_join-clause-part c =
    let d = c.args.diagrams.now in
    record {
      part = record { is_id = c.requires.within; within = λ atom fits h. h };
      lefts = λ atom fits there none. absurd (both_ways (value_of d c.args.within atom) none there);
      rights = λ atom fits there none. absurd (both_ways (value_of d c.args.within atom) none there);
    }

pub returns-then-not-may_join-clause-kept : goal.returns-then-not-may_join-clause-kept
returns-then-not-may_join-clause-kept c = KeepsFunctions-itself c.args.diagrams.now

pub returns-clause-part : goal.returns-clause-part
returns-clause-part c =
    let sides = c.args.sides.now in
    IfOk-weaker c.and_not.result _ _
    (λ id function.
    open_part c.args.diagrams.now c.reached.new.diagrams c.reached-2.new.diagrams c.and_not.new.diagrams c.in_ok-left.ensures.kept c.in_ok-both.ensures.kept c.and_not.ensures.kept
    c.args.self.now.entries.items c.requires.tests c.args.self.now.universal sides.left.now sides.right.now sides.open_left.now sides.open_right.now c.args.within c.in_ok-left.left c.in_ok-both.both id c.requires.within
    c.in_ok-left.ensures.part c.in_ok-left.ensures.reached c.in_ok-both.ensures.part c.in_ok-both.ensures.reached function)
    c.and_not.ensures.function

pub reached-requires-2-clause-tests : goal.reached-requires-2-clause-tests
reached-requires-2-clause-tests c e h = c.in_ok-left.ensures.kept.ids e.test (c.requires.tests e h)

pub reached-requires-2-clause-within : goal.reached-requires-2-clause-within
reached-requires-2-clause-within c = c.in_ok-left.ensures.part.is_id

pub and_not-requires-clause-first : goal.and_not-requires-clause-first
and_not-requires-clause-first c = c.in_ok-both.ensures.kept.ids c.args.within (c.in_ok-left.ensures.kept.ids c.args.within c.requires.within)

pub and_not-requires-clause-second : goal.and_not-requires-clause-second
and_not-requires-clause-second c = c.in_ok-both.ensures.part.is_id

pub returns-in_err-both-clause-kept : goal.returns-in_err-both-clause-kept
returns-in_err-both-clause-kept c = KeepsFunctions-trans _ _ _ c.in_ok-left.ensures.kept c.in_err-both.ensures.kept

pub returns-clause-kept : goal.returns-clause-kept
returns-clause-kept c = KeepsFunctions-trans _ _ _ c.in_ok-left.ensures.kept (KeepsFunctions-trans _ _ _ c.in_ok-both.ensures.kept c.and_not.ensures.kept)
