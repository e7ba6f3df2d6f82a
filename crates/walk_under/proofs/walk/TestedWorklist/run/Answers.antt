use Rattle.std.proofs.Common.{◌≤◌, ◌<◌, ◌+◌, length, arith}
use Rattle.term_nodes.proofs.Growing.{Grows-itself, Grows-trans}
use Rattle.walk_under.specs.Working.Walking.{walk_context, IsUnderWay}
use Rattle.walk_under.proofs.Few.{entry_limit}
use Rattle.walk_under.proofs.Running.{limit_is, few_entries, all_taken}
use Rattle.walk_under.proofs.walk.TestedWorklist.run.Goals as goal

pub loop-place-init : goal.loop-place-init
loop-place-init c = record { some = c.requires; each = λ shorts q count u. u; kept = Grows-itself c.args.store.now }

pub take-requires-clause-under_way : goal.take-requires-clause-under_way
take-requires-clause-under_way c = c.loop-place.invariant.some

pub loop-place-smaller : goal.loop-place-smaller
loop-place-smaller c =
    let b = c.loop-place.invariant.some in
    let s = walk_context b.0 b.1 c.loop-place.store in
    let t = walk_context b.0 b.1 c.take.new.store in
    let after : IsUnderWay t c.take.new.self (c.loop-place.place + 1) = rw c.in_default.is at (c.in_ok-found.ensures.taken b.0 b.1 b.3 b.2) in
    let was = limit_is s c.loop-place.self c.loop-place.place b.2 in
    let now = limit_is t c.take.new.self (c.loop-place.place + 1) after in
    let few = few_entries s c.loop-place.self c.loop-place.place b.2 in
    let limit = entry_limit b.1 in
    let here : c.loop-place.place < length c.loop-place.self.listing.entries.items = omega (arith, c.len.ensures, c.loop-place-test.true) in
    omega (arith, was, now, few, here)

pub loop-place-preserved : goal.loop-place-preserved
loop-place-preserved c =
    let b = c.loop-place.invariant.some in
    record {
      some = (b.0, b.1, rw c.in_default.is at (c.in_ok-found.ensures.taken b.0 b.1 b.3 b.2), b.3);
      each = λ shorts q count u. rw c.in_default.is at (c.in_ok-found.ensures.taken shorts q count (c.loop-place.invariant.each shorts q count u));
      kept = Grows-trans c.args.store.now c.loop-place.store c.take.new.store c.loop-place.invariant.kept c.in_ok-found.ensures.kept;
    }

pub returns-then-is_full-clause-answer : goal.returns-then-is_full-clause-answer
returns-then-is_full-clause-answer c shorts q count u = (c.loop-place.place, c.loop-place.invariant.each shorts q count u)

pub returns-in-Some-clause-answer : goal.returns-in-Some-clause-answer
returns-in-Some-clause-answer c shorts q count u =
    let found = rw c.in-Some.is at (c.in_ok-found.ensures.taken shorts q count (c.loop-place.invariant.each shorts q count u)) in
    (found.0, found.1, rw c.in-Some.is at c.in_ok-found.ensures.region)

pub returns-clause-answer : goal.returns-clause-answer
returns-clause-answer c shorts q count u =
    let past : length c.loop-place.self.listing.entries.items ≤ c.loop-place.place = omega (arith, c.len.ensures, c.loop-place-test.false) in
    all_taken (walk_context shorts q c.loop-place.store) c.loop-place.self c.loop-place.place (c.loop-place.invariant.each shorts q count u) past

pub take-requires-clause-place : goal.take-requires-clause-place
take-requires-clause-place c = omega (arith, c.len.ensures, c.loop-place-test.true)

pub returns-in_err-found-clause-kept : goal.returns-in_err-found-clause-kept
returns-in_err-found-clause-kept c = Grows-trans _ _ _ c.loop-place.invariant.kept c.in_err-found.ensures.kept

pub returns-in-Some-clause-kept : goal.returns-in-Some-clause-kept
returns-in-Some-clause-kept c = Grows-trans _ _ _ c.loop-place.invariant.kept c.in_ok-found.ensures.kept
