use Rattle.std.proofs.Common.{ℕ, Option, Some, None, refl}
use Rattle.std.specs.Prelude.{IsSome, IfSome}
use Rattle.kat_model.specs.Degrees.{long_hyps, with_hyps}
use Rattle.term_nodes.proofs.Growing.{Grows-trans}
use Rattle.walk_under.proofs.CountedWalks.{may_begin}
use Rattle.walk_under.proofs.deciding.turn.Goals as goal

of_some : (P : Type 0) (o : Option ℕ) → IsSome o → IfSome o (λ n. P) → P
of_some P None some p = absurd cc
of_some P (Some n) some p = p

pub run-requires : goal.run-requires
run-requires c =
    let q = c.args.problem.now in
    let begun = c.in_ok-begin_counted.ensures.begun in
    (begun.0, with_hyps q (long_hyps q), begun.2, c.actions-actions.ensures.value)

pub returns-in-Ended-clause-end : goal.returns-in-Ended-clause-end
returns-in-Ended-clause-end c =
    let q = c.args.problem.now in
    let begun = c.in_ok-begin_counted.ensures.begun in
    let answer = rw c.in-Ended.is at c.in_ok-end.ensures.answer in
    record {
      counted = begun.0;
      fewer = begun.1.fewer;
      under_way = answer begun.0 (with_hyps q (long_hyps q)) c.actions-actions.ensures.value begun.2;
    }

pub count_all-requires : goal.count_all-requires
count_all-requires c =
    let limited = rw c.in-Full.is at c.in_ok-end.ensures.limited in
    of_some _ c.limit_of-limit.result (limited refl) c.limit_of-limit.ensures

pub returns-in-Full-clause-end : goal.returns-in-Full-clause-end
returns-in-Full-clause-end c =
    let q = c.args.problem.now in
    let begun = c.in_ok-begin_counted.ensures.begun in
    let answer = rw c.in-Full.is at c.in_ok-end.ensures.answer in
    let stopped = answer begun.0 (with_hyps q (long_hyps q)) c.actions-actions.ensures.value begun.2 in
    (c.count_all.ensures.fewer, record { tests = stopped.1.tests; right = stopped.1.right })

pub string_of-requires-clause-region : goal.string_of-requires-clause-region
string_of-requires-clause-region c =
    let q = c.args.problem.now in
    let begun = c.in_ok-begin_counted.ensures.begun in
    let answer = rw c.in-Found.is at c.in_ok-end.ensures.answer in
    (answer begun.0 (with_hyps q (long_hyps q)) c.actions-actions.ensures.value begun.2).2

pub string_of-requires-clause-found : goal.string_of-requires-clause-found
string_of-requires-clause-found c =
    let q = c.args.problem.now in
    let begun = c.in_ok-begin_counted.ensures.begun in
    let answer = rw c.in-Found.is at c.in_ok-end.ensures.answer in
    let found = answer begun.0 (with_hyps q (long_hyps q)) c.actions-actions.ensures.value begun.2 in
    (c.run.new.store, begun.0, begun.1, found.0, found.1)

pub string_of-requires-clause-hyps : goal.string_of-requires-clause-hyps
string_of-requires-clause-hyps c = (c.args.store.now, c.requires.hyps)

pub returns-in-Some-clause-end : goal.returns-in-Some-clause-end
returns-in-Some-clause-end c = rw c.in-Some.is at c.in_ok-answer-in-Found.ensures.answer

pub returns-in-None-clause-end : goal.returns-in-None-clause-end
returns-in-None-clause-end c =
    let q = c.args.problem.now in
    let begun = c.in_ok-begin_counted.ensures.begun in
    let answer = rw c.in-Found.is at c.in_ok-end.ensures.answer in
    let found = answer begun.0 (with_hyps q (long_hyps q)) c.actions-actions.ensures.value begun.2 in
    let given = c.in_ok-answer-in-Found.ensures in
    (rw c.in-None.is at given.answer, may_begin q c.run.new.store c.run.new.self c.string_of.new.walk given.derivatives given.kept found.0.tests found.0.right)

pub returns-in_err-end-clause-kept : goal.returns-in_err-end-clause-kept
returns-in_err-end-clause-kept c = Grows-trans _ _ _ c.in_ok-begin_counted.ensures.kept c.in_err-end.ensures.kept

pub returns-in-Ended-clause-kept : goal.returns-in-Ended-clause-kept
returns-in-Ended-clause-kept c = Grows-trans _ _ _ c.in_ok-begin_counted.ensures.kept c.in_ok-end.ensures.kept

pub returns-in-Full-clause-kept : goal.returns-in-Full-clause-kept
returns-in-Full-clause-kept c = Grows-trans _ _ _ c.in_ok-begin_counted.ensures.kept c.in_ok-end.ensures.kept

pub returns-in_err-answer-in-Found-clause-kept : goal.returns-in_err-answer-in-Found-clause-kept
returns-in_err-answer-in-Found-clause-kept c = Grows-trans _ _ _ c.in_ok-begin_counted.ensures.kept c.in_ok-end.ensures.kept

pub returns-in-Some-clause-kept : goal.returns-in-Some-clause-kept
returns-in-Some-clause-kept c = Grows-trans _ _ _ c.in_ok-begin_counted.ensures.kept c.in_ok-end.ensures.kept

pub returns-in-None-clause-kept : goal.returns-in-None-clause-kept
returns-in-None-clause-kept c = Grows-trans _ _ _ c.in_ok-begin_counted.ensures.kept c.in_ok-end.ensures.kept

pub begin_counted-requires-clause-flags : goal.begin_counted-requires-clause-flags
begin_counted-requires-clause-flags c = c.requires.flags

pub begin_counted-requires-clause-hyps : goal.begin_counted-requires-clause-hyps
begin_counted-requires-clause-hyps c = c.requires.hyps

pub begin_counted-requires-clause-sides : goal.begin_counted-requires-clause-sides
begin_counted-requires-clause-sides c = c.requires.sides

pub begin_counted-requires-clause-walk : goal.begin_counted-requires-clause-walk
begin_counted-requires-clause-walk c = c.requires.walk

pub returns-in_err-begin_counted-clause-counting : goal.returns-in_err-begin_counted-clause-counting
returns-in_err-begin_counted-clause-counting c i h = h

pub returns-in_err-begin_counted-clause-flags : goal.returns-in_err-begin_counted-clause-flags
returns-in_err-begin_counted-clause-flags c = refl

pub returns-in_err-begin_counted-clause-kept : goal.returns-in_err-begin_counted-clause-kept
returns-in_err-begin_counted-clause-kept c = c.in_err-begin_counted.ensures.kept

pub returns-in_err-end-clause-counting : goal.returns-in_err-end-clause-counting
returns-in_err-end-clause-counting c i h = h

pub returns-in_err-end-clause-flags : goal.returns-in_err-end-clause-flags
returns-in_err-end-clause-flags c = refl

pub returns-in-Ended-clause-counting : goal.returns-in-Ended-clause-counting
returns-in-Ended-clause-counting c i h = h

pub returns-in-Ended-clause-flags : goal.returns-in-Ended-clause-flags
returns-in-Ended-clause-flags c = refl

pub string_of-requires-clause-flags : goal.string_of-requires-clause-flags
string_of-requires-clause-flags c = c.requires.flags

pub returns-in_err-answer-in-Found-clause-counting : goal.returns-in_err-answer-in-Found-clause-counting
returns-in_err-answer-in-Found-clause-counting c = c.in_err-answer-in-Found.ensures.counting

pub returns-in_err-answer-in-Found-clause-flags : goal.returns-in_err-answer-in-Found-clause-flags
returns-in_err-answer-in-Found-clause-flags c = c.in_err-answer-in-Found.ensures.flags

pub returns-in-Some-clause-counting : goal.returns-in-Some-clause-counting
returns-in-Some-clause-counting c = c.in_ok-answer-in-Found.ensures.counting

pub returns-in-Some-clause-flags : goal.returns-in-Some-clause-flags
returns-in-Some-clause-flags c = c.in_ok-answer-in-Found.ensures.flags

pub returns-in-None-clause-counting : goal.returns-in-None-clause-counting
returns-in-None-clause-counting c = c.in_ok-answer-in-Found.ensures.counting

pub returns-in-None-clause-flags : goal.returns-in-None-clause-flags
returns-in-None-clause-flags c = c.in_ok-answer-in-Found.ensures.flags
