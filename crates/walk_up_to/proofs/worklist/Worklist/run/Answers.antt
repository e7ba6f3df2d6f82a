use Rattle.std.proofs.Common.{◌≤◌, ◌<◌, ◌∙◌, length, Err, ap, subst}
use Rattle.std.specs.Prelude.{IsSome}
use borrow.Author.Count.{falls}
use Rattle.term_nodes.proofs.Growing.{Grows-trans}
use Rattle.walk_up_to.specs.Working.IdWalks.{IsPastLimit}
use Rattle.certificate.specs.Decisions.{pair_limit}
use Rattle.walk_up_to.proofs.PassedOn.{passed_on, passed_cost, not_stopped}
use Rattle.walk_up_to.proofs.UnderWay.{place_limit, all_taken}
use Rattle.walk_up_to.proofs.worklist.Worklist.run.Goals as goal

pub loop-place-smaller : goal.loop-place-smaller
loop-place-smaller c =
    falls (pair_limit c.args.problem.now) c.loop-place.place
    (place_limit c.args.problem.now c.loop-place.store c.loop-place.self c.loop-place.place c.loop-place.invariant.under_way
    (subst (λ ps. c.loop-place.place < length ps) c.pairs.ensures.value c.loop-place-test.true))

pub returns-clause-answer : goal.returns-clause-answer
returns-clause-answer c =
    all_taken c.args.problem.now c.loop-place.store c.loop-place.self c.loop-place.place c.loop-place.invariant.under_way
    (subst (λ ps. length ps ≤ c.loop-place.place) c.pairs.ensures.value c.loop-place-test.false)

pub returns-in_err-atom-clause-full : goal.returns-in_err-atom-clause-full
returns-in_err-atom-clause-full c = λ is.
    subst (IsPastLimit c.args.problem.now) c.loop-place.invariant.limit (c.in_err-atom.ensures.full (ap Err (passed_on c.from_residual.result c.in_err-atom.field-0.0 c.from_residual.ensures.1 is)) c.args.problem.now c.actions.ensures.value c.loop-place.invariant.under_way)

pub take-requires-clause-under_way : goal.take-requires-clause-under_way
take-requires-clause-under_way c = (c.args.problem.now, c.loop-place.invariant.under_way)

pub loop-place-preserved : goal.loop-place-preserved
loop-place-preserved c =
    let before = c.loop-place.invariant in
    let taken = rw c.in_default.is at c.in_ok-atom.ensures.taken in
    record {
      under_way = taken c.args.problem.now c.actions.ensures.value before.under_way;
      kept = Grows-trans c.args.store.now c.loop-place.store c.take.new.store before.kept c.in_ok-atom.ensures.kept;
      limit = c.in_ok-atom.ensures.limit ∙ before.limit;
    }

pub returns-in-Some-clause-answer : goal.returns-in-Some-clause-answer
returns-in-Some-clause-answer c =
    let taken = rw c.in-Some.is at c.in_ok-atom.ensures.taken in
    taken c.args.problem.now c.actions.ensures.value c.loop-place.invariant.under_way

pub returns-in-Some-clause-kept : goal.returns-in-Some-clause-kept
returns-in-Some-clause-kept c = Grows-trans c.args.store.now c.loop-place.store c.take.new.store c.loop-place.invariant.kept c.in_ok-atom.ensures.kept

pub returns-in_err-atom-clause-kept : goal.returns-in_err-atom-clause-kept
returns-in_err-atom-clause-kept c = Grows-trans c.args.store.now c.loop-place.store c.take.new.store c.loop-place.invariant.kept c.in_err-atom.ensures.kept

pub returns-in_err-atom-clause-limited : goal.returns-in_err-atom-clause-limited
returns-in_err-atom-clause-limited c = λ is.
    subst IsSome c.loop-place.invariant.limit (c.in_err-atom.ensures.limited (ap Err (passed_cost c.from_residual.result c.in_err-atom.field-0.0 c.from_residual.ensures.1 is)))

pub returns-in-Some-clause-full : goal.returns-in-Some-clause-full
returns-in-Some-clause-full c is = absurd (not_stopped _ _ is)

pub returns-in-Some-clause-limited : goal.returns-in-Some-clause-limited
returns-in-Some-clause-limited c is = absurd (not_stopped _ _ is)

pub returns-clause-full : goal.returns-clause-full
returns-clause-full c is = absurd (not_stopped _ _ is)

pub returns-clause-limited : goal.returns-clause-limited
returns-clause-limited c is = absurd (not_stopped _ _ is)
