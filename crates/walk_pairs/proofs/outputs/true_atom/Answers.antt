use Rattle.std.proofs.Common.{◌<◌, ◌≤◌, ◌+◌, sym, subst, arith}
use Rattle.test_diagrams.proofs.Kept.{KeepsFunctions-trans}
use Rattle.walk_pairs.proofs.TrueAtoms.{IsRest, rest_next, rest_last}
use Rattle.walk_pairs.proofs.outputs.true_atom.Goals as goal

pub returns-in_err-value-clause-kept : goal.returns-in_err-value-clause-kept
returns-in_err-value-clause-kept c = KeepsFunctions-trans _ _ _ c.loop-test.invariant.kept c.value_for.ensures.kept

pub fix-requires-clause-id : goal.fix-requires-clause-id
fix-requires-clause-id c = c.value_for.ensures.kept.ids c.loop-test.rest c.loop-test.invariant.is_id

pub returns-in_err-rest-clause-kept : goal.returns-in_err-rest-clause-kept
returns-in_err-rest-clause-kept c = KeepsFunctions-trans _ _ _ c.loop-test.invariant.kept (KeepsFunctions-trans _ _ _ c.value_for.ensures.kept c.fix.ensures.kept)

pub returns-in_err-push-clause-kept : goal.returns-in_err-push-clause-kept
returns-in_err-push-clause-kept c = KeepsFunctions-trans _ _ _ c.loop-test.invariant.kept (KeepsFunctions-trans _ _ _ c.value_for.ensures.kept c.fix.ensures.kept)

pub loop-test-preserved : goal.loop-test-preserved
loop-test-preserved c =
    let d = c.args.diagrams.now in
    let within : c.loop-test.test < c.loop-test.diagrams.tests = omega (arith, c.loop-test-test.true, c.tests-test-end.ensures.tests, c.loop-test.invariant.kept.tests) in
    subst (λ l. IsRest d c.args.id c.fix.new.self c.in_ok-rest.rest l (c.loop-test.test + 1)) (sym c.in_ok-push.ensures.items)
    (rest_next d c.args.id c.loop-test.diagrams c.value_for.new.diagrams c.fix.new.self c.loop-test.rest c.in_ok-rest.rest c.loop-test.atom.items c.loop-test.test c.in_ok-value.value
    (KeepsFunctions-trans _ _ _ c.loop-test.invariant.kept (KeepsFunctions-trans _ _ _ c.value_for.ensures.kept c.fix.ensures.kept))
    c.loop-test.invariant within c.value_for.ensures.kept c.fix.ensures.kept c.in_ok-value.ensures.value c.in_ok-rest.ensures.function)

pub returns-clause-holds : goal.returns-clause-holds
returns-clause-holds c =
    let past : c.loop-test.diagrams.tests ≤ c.loop-test.test = omega (arith, c.loop-test-test.false, c.tests-test-end.ensures.tests, c.loop-test.invariant.kept.tests) in
    rest_last c.args.diagrams.now c.args.id c.loop-test.diagrams c.loop-test.rest c.loop-test.atom.items c.loop-test.test c.loop-test.invariant past
