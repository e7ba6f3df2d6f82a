use Rattle.std.proofs.Common.{[], ◌∷◌, subst, arith}
use Rattle.kat_model.proofs.Places.{has_at}
use Rattle.test_diagrams.proofs.Kept.{KeepsFunctions-itself, KeepsFunctions-trans}
use Rattle.walk_regions.specs.Reaching.{Brings}
use Rattle.walk_regions.proofs.Marking.{read_number, marks_kept, part_of_both, brings_next, brings_first_all}
use Rattle.walk_regions.proofs.reaching.marked_at.Goals as goal

pub and-requires-clause-right : goal.and-requires-clause-right
and-requires-clause-right c = c.loop-term.invariant.kept.ids c.in-Some.mark.now (c.requires.marks c.in-Some.mark.now (has_at c.args.marks.now c.number.result c.in-Some.mark.now (read_number c.args.marks.now c.number.result c.in-Some.mark.now c.in-Some.ensures.lookup.3.0 c.in-Some.ensures.lookup.1)))

pub loop-term-preserved : goal.loop-term-preserved
loop-term-preserved c =
    let before = c.loop-term.invariant in
    let now = c.loop-term.diagrams in
    let mark = c.in-Some.mark.now in
    let at = read_number c.args.terms.now c.loop-term.term-index c.term-item.result c.loop-term-test.true c.term-item.is in
    record {
      kept = KeepsFunctions-trans c.args.diagrams.now now c.and.new.self before.kept c.in_ok-id.ensures.kept;
      part = part_of_both now c.and.new.self c.in_ok-id.ensures.kept c.args.within c.loop-term.id mark c.in_ok-id.id c.in_ok-id.ensures.function (before.kept.ids c.args.within c.requires.within) before.part;
      brings = λ es all first.
          let then = marks_kept c.args.diagrams.now now before.kept es all c.args.marks.now first in
          brings_next now c.and.new.self c.in_ok-id.ensures.kept es then.tests all c.args.terms.now c.loop-term.term-index c.loop-term.id mark c.in_ok-id.id c.term-item.result at c.in_ok-id.ensures.function (before.brings es all first)
          (subst (λ t. Brings now es all mark (t ∷ [])) c.number.ensures (then.brings c.number.result mark (read_number c.args.marks.now c.number.result mark c.in-Some.ensures.lookup.3.0 c.in-Some.ensures.lookup.1)));
    }

pub returns-clause-brings : goal.returns-clause-brings
returns-clause-brings c es all first = brings_first_all c.loop-term.diagrams es all c.args.terms.now c.loop-term.id c.loop-term.term-index c.loop-term-test.false (c.loop-term.invariant.brings es all first)

pub loop-term-init : goal.loop-term-init
loop-term-init c = record { kept = KeepsFunctions-itself c.args.diagrams.now; part = record { is_id = c.requires.within; within = λ atom fits h. h }; brings = λ es all m k t lt. absurd (omega (arith, lt)) }

pub and-requires-clause-left : goal.and-requires-clause-left
and-requires-clause-left c = c.loop-term.invariant.part.is_id

pub returns-in_err-id-clause-kept : goal.returns-in_err-id-clause-kept
returns-in_err-id-clause-kept c = KeepsFunctions-trans _ _ _ c.loop-term.invariant.kept c.in_err-id.ensures.kept

pub returns-then-eq-clause-kept : goal.returns-then-eq-clause-kept
returns-then-eq-clause-kept c = KeepsFunctions-itself c.args.diagrams.now

pub returns-in_default-clause-kept : goal.returns-in_default-clause-kept
returns-in_default-clause-kept c = c.loop-term.invariant.kept

pub returns-clause-part : goal.returns-clause-part
returns-clause-part c = c.loop-term.invariant.part

pub returns-clause-kept : goal.returns-clause-kept
returns-clause-kept c = c.loop-term.invariant.kept
