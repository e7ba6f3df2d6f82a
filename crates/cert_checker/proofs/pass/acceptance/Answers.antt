use Rattle.std.proofs.Common.{◌≡◌, ◌<◌, ◌+◌, ℕ, List, ◌∷◌, length, get_or, drop, subst, arith}
use Rattle.std.proofs.lemmas.List.{drop_more, drop_all}
use Rattle.cert_checker.proofs.TargetSets.{test_within}
use Rattle.cert_checker.proofs.StepLists.{below_at, accept_at}
use Rattle.cert_checker.proofs.GrowingTables.{tests_trans}
use Rattle.cert_checker.proofs.SetAcceptances.{IsAccepting, accepting_begins, accepting_more, accepting_ends}
use Rattle.cert_checker.proofs.pass.acceptance.Goals as goal

pub loop-number-init : goal.loop-number-init
loop-number-init c = accepting_begins c.args.tables.now c.constant.new.self c.in_ok-guard.guard c.args.set.now c.constant.ensures.grows c.in_ok-guard.ensures.values

pub either-requires-clause-second : goal.either-requires-clause-second
either-requires-clause-second c =
    let now = c.loop-number.invariant in
    let set = c.args.set.now in
    let k = get_or set c.loop-number.number-index 0 in
    let low : k < length c.args.tests.now = below_at (length c.args.tests.now) set c.loop-number.number-index 0 c.requires.set (omega arith) in
    test_within c.args.tables.now c.loop-number.tables now.grows.grows.was now.grows.grows _ (accept_at c.args.tables.now c.args.tests.now k c.requires.tests low).0

pub loop-number-preserved : goal.loop-number-preserved
loop-number-preserved c =
    let now = c.loop-number.invariant in
    let set = c.args.set.now in
    let i = c.loop-number.number-index in
    let k = get_or set i 0 in
    let low : k < length c.args.tests.now = below_at (length c.args.tests.now) set i 0 c.requires.set (omega arith) in
    let cut : drop i set ≡ k ∷ drop (i + 1) set = drop_more set i 0 (omega arith) in
    accepting_more c.args.tables.now c.loop-number.tables c.either.new.self c.loop-number.guard c.in_ok-guard-2.guard k (drop (i + 1) set) set c.args.tests.now
    (subst (λ (l : List ℕ). IsAccepting c.args.tables.now c.loop-number.tables c.loop-number.guard l set) cut now)
    c.requires.tests low c.either.ensures.grows c.in_ok-guard-2.ensures.values

pub returns-in_err-guard-2-clause-grows : goal.returns-in_err-guard-2-clause-grows
returns-in_err-guard-2-clause-grows c = tests_trans c.args.tables.now c.loop-number.tables c.either.new.self c.loop-number.invariant.grows c.either.ensures.grows

pub returns-clause-values : goal.returns-clause-values
returns-clause-values c =
    let set = c.args.set.now in
    accepting_ends c.args.tables.now c.loop-number.tables c.loop-number.guard (drop c.loop-number.number-index set) set (drop_all c.loop-number.number-index set (omega arith)) c.loop-number.invariant

pub bounds-tests-number : goal.bounds-tests-number
bounds-tests-number c = below_at (length c.args.tests.now) c.args.set.now c.loop-number.number-index 0 c.requires.set (omega arith)

pub either-requires-clause-first : goal.either-requires-clause-first
either-requires-clause-first c = c.loop-number.invariant.test

pub returns-in_err-guard-clause-grows : goal.returns-in_err-guard-clause-grows
returns-in_err-guard-clause-grows c = c.constant.ensures.grows

pub returns-clause-grows : goal.returns-clause-grows
returns-clause-grows c = c.loop-number.invariant.grows
