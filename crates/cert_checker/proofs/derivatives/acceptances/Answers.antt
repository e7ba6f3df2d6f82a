use Rattle.std.proofs.Common.{◌<◌, ◌+◌, length, sym, ap, ◌∙◌, subst, arith}
use Rattle.std.proofs.lemmas.List.{length_push}
use Rattle.kat_model.specs.Steps.{out}
use Rattle.cert_checker.specs.NodeTables.{HasValues, term_at}
use Rattle.cert_checker.specs.Targets.{AreAcceptances}
use Rattle.cert_checker.proofs.GrowingTables.{tests_trans}
use Rattle.cert_checker.proofs.StepLists.{acceptances_more}
use Rattle.cert_checker.proofs.derivatives.acceptances.Goals as goal

pub loop-preserved : goal.loop-preserved
loop-preserved c =
    let t = c.loop.tables in
    let new = c.acceptance.new.tables in
    let now = c.loop.invariant in
    let guards = c.loop.guards.items in
    let items = c.in_ok-push.ensures.items in
    let terms = ap length now.grows.terms in
    let low : length guards < length t.terms = omega (arith, terms, now.count, c.term_count-end.ensures.value) in
    let given = subst (λ n. HasValues new (out (term_at t n)) c.in_ok-guard.guard) (ap length c.deref.ensures.value) c.in_ok-guard.ensures.values in
    let grows = c.acceptance.ensures.grows.grows in
    record {
      count = ap length items ∙ length_push guards c.in_ok-guard.guard ∙ ap (λ n. n + 1) now.count;
      grows = tests_trans c.args.tables.now t new now.grows c.acceptance.ensures.grows;
      values = subst (AreAcceptances new) (sym items) (acceptances_more t new grows.was grows guards c.in_ok-guard.guard now.values low given);
    }

pub returns-in_err-guard-clause-grows : goal.returns-in_err-guard-clause-grows
returns-in_err-guard-clause-grows c = tests_trans c.args.tables.now c.loop.tables c.acceptance.new.tables c.loop.invariant.grows c.acceptance.ensures.grows

pub returns-in_err-push-clause-grows : goal.returns-in_err-push-clause-grows
returns-in_err-push-clause-grows c = tests_trans c.args.tables.now c.loop.tables c.acceptance.new.tables c.loop.invariant.grows c.acceptance.ensures.grows

pub acceptance-requires-clause-earlier : goal.acceptance-requires-clause-earlier
acceptance-requires-clause-earlier c = subst (AreAcceptances c.loop.tables) (sym c.deref.ensures.value) c.loop.invariant.values

pub acceptance-requires-clause-next : goal.acceptance-requires-clause-next
acceptance-requires-clause-next c =
    let now = c.loop.invariant in
    omega (arith, ap length c.deref.ensures.value, ap length now.grows.terms, now.count, c.term_count-end.ensures.value)

pub returns-clause-values : goal.returns-clause-values
returns-clause-values c = c.loop.invariant.values

pub returns-clause-grows : goal.returns-clause-grows
returns-clause-grows c = c.loop.invariant.grows
