use Rattle.std.proofs.Common.{◌≡◌, ◌+◌, length, take, drop, Some, None, sym, ap, ◌∙◌, subst, arith, below_more}
use Rattle.std.specs.Option.{option_map}
use Rattle.kat_model.specs.Members.{Has}
use Rattle.kat_model.proofs.Places.{has_at}
use Rattle.certificate.specs.Certs.{nodes_of}
use Rattle.certificate.specs.Accepted.{tested_pair_of}
use Rattle.cert_checker.specs.LeastFailures.{IsFirstFailure}
use Rattle.cert_checker.specs.Cases.{undecided}
use Rattle.cert_checker.specs.Passes.{PassParts}
use Rattle.cert_checker.specs.Questions.{ActionPassParts}
use Rattle.cert_checker.specs.Working.Places.{IsFirstOf, PairHolds, reason_at, turn_number}
use Rattle.cert_checker.proofs.PairPlaces.{none_fails, first_fails, pair_holds, undecided_length, tested_at}
use Rattle.cert_checker.proofs.CertPairs.{pair_at}
use Rattle.cert_checker.proofs.Passes.{pass_kept, turn_kept, passes_trans, passes_itself}
use Rattle.cert_checker.proofs.places.failure_in.Goals as goal

pub loop-pair-init : goal.loop-pair-init
loop-pair-init c = record {
  pass = c.requires.pass;
  grows = passes_itself c.args.pass.now c.requires.pass;
  undecided = c.requires.undecided;
  passed = λ j low. absurd (omega (arith, low));
}

pub pair_failure-requires-clause-pass : goal.pair_failure-requires-clause-pass
pair_failure-requires-clause-pass c = c.loop-pair.invariant.pass

pub pair_failure-requires-clause-undecided : goal.pair_failure-requires-clause-undecided
pair_failure-requires-clause-undecided c = c.loop-pair.invariant.undecided

pub pair_failure-requires-clause-action_pass : goal.pair_failure-requires-clause-action_pass
pair_failure-requires-clause-action_pass c = turn_kept c.args.pass.now c.loop-pair.pass c.loop-pair.invariant.grows c.args.action_pass.now c.requires.pass c.requires.action_pass

pub pair_failure-requires-clause-pair : goal.pair_failure-requires-clause-pair
pair_failure-requires-clause-pair c =
    let cert = c.args.pass.now.cert in
    let p = c.sets-item.result in
    let listed = has_at cert.pairs c.loop-pair.pair p (pair_at cert.pairs c.pairs-sets-items.result.now c.loop-pair.pair p (c.pairs-sets-items.ensures.value ∙ ap (λ (z : PassParts). z.cert.pairs) c.pass.view_is) (omega (arith, c.loop-pair-test.true)) c.sets-item.is) in
    subst (λ (z : PassParts). Has z.cert.pairs p) (sym c.loop-pair.invariant.grows.same) listed

pub place_of-requires : goal.place_of-requires
place_of-requires c =
    let now = c.loop-pair.invariant in
    let q = c.loop-pair.pass.problem in
    let f = subst (λ o. IsFirstFailure (PairHolds q c.loop-pair.pass.cert c.args.action_pass.now.action c.sets-item.result) (undecided (q.tests + q.tests)) (option_map (λ v. v.items) o)) c.in-Some.is c.in_ok-values.ensures.failure in
    let wide : length c.in-Some.values.items ≡ q.tests + q.tests = undecided_length (q.tests + q.tests) c.in-Some.values.items f.within in
    let width : c.width-width.result ≡ q.tests = c.width-width.ensures ∙ ap (λ (z : PassParts). z.tables.width) c.pass.view_is ∙ sym now.grows.tables.width ∙ now.pass.nodes.width in
    omega (arith, wide, width, ap length c.deref.ensures.value)

pub returns-in-Some-clause-first : goal.returns-in-Some-clause-first
returns-in-Some-clause-first c =
    let q = c.args.pass.now.problem in
    let cert = c.args.pass.now.cert in
    let p = c.sets-item.result in
    let k = c.loop-pair.pair in
    let now = c.loop-pair.invariant in
    let at = pair_at cert.pairs c.pairs-sets-items.result.now k p (c.pairs-sets-items.ensures.value ∙ ap (λ (z : PassParts). z.cert.pairs) c.pass.view_is) (omega (arith, c.loop-pair-test.true)) c.sets-item.is in
    let x = c.in-Some.values.items in
    let failed = subst (λ o. IsFirstFailure (PairHolds c.loop-pair.pass.problem c.loop-pair.pass.cert c.args.action_pass.now.action p) (undecided (c.loop-pair.pass.problem.tests + c.loop-pair.pass.problem.tests)) (option_map (λ v. v.items) o)) c.in-Some.is c.in_ok-values.ensures.failure in
    let f = subst (λ (z : PassParts). IsFirstFailure (PairHolds z.problem z.cert c.args.action_pass.now.action p) (undecided (z.problem.tests + z.problem.tests)) (Some x)) now.grows.same failed in
    let width : c.width-width.result ≡ q.tests = c.width-width.ensures ∙ ap (λ (z : PassParts). z.tables.width) c.pass.view_is ∙ c.requires.pass.nodes.width in
    let values : c.deref.result.now ≡ x = c.deref.ensures.value in
    let made = c.in_ok-place.ensures in
    let front : c.in_ok-place.place.atom.items ≡ take q.tests x = made.2 ∙ (λ i. take (width i) (values i)) in
    let back : c.in_ok-place.place.to.items ≡ drop q.tests x = made.3 ∙ (λ i. drop (width i) (values i)) in
    let action : c.in_ok-place.place.action ≡ c.args.action_pass.now.action = made.1 ∙ ap (λ (t : ActionPassParts). t.action) c.action_pass.view_is in
    subst (λ r. IsFirstOf q cert (λ n. n ≡ turn_number c.args.action_pass.now.action) (Some r)) (sym (λ i. reason_at cert.style (made.0 i) (front i) (action i) (back i)))
    (first_fails q cert c.args.action_pass.now.action c.requires.action k (tested_pair_of (nodes_of cert) p) (tested_at cert k p at) now.passed x f)

pub returns-in-Some-clause-grows : goal.returns-in-Some-clause-grows
returns-in-Some-clause-grows c = passes_trans c.args.pass.now c.loop-pair.pass c.pair_failure.new.pass c.loop-pair.invariant.grows c.pair_failure.ensures.grows

pub loop-pair-preserved : goal.loop-pair-preserved
loop-pair-preserved c =
    let q = c.args.pass.now.problem in
    let cert = c.args.pass.now.cert in
    let p = c.sets-item.result in
    let k = c.loop-pair.pair in
    let now = c.loop-pair.invariant in
    let old = c.loop-pair.pass in
    let new = c.pair_failure.new.pass in
    let grows = c.pair_failure.ensures.grows in
    let at = pair_at cert.pairs c.pairs-sets-items.result.now k p (c.pairs-sets-items.ensures.value ∙ ap (λ (z : PassParts). z.cert.pairs) c.pass.view_is) (omega (arith, c.loop-pair-test.true)) c.sets-item.is in
    let failed = subst (λ o. IsFirstFailure (PairHolds old.problem old.cert c.args.action_pass.now.action p) (undecided (old.problem.tests + old.problem.tests)) (option_map (λ v. v.items) o)) c.in_default.is c.in_ok-values.ensures.failure in
    let f = subst (λ (z : PassParts). IsFirstFailure (PairHolds z.problem z.cert c.args.action_pass.now.action p) (undecided (z.problem.tests + z.problem.tests)) None) now.grows.same failed in
    record {
      pass = pass_kept old new grows now.pass;
      grows = passes_trans c.args.pass.now old new now.grows grows;
      undecided = c.in_ok-values.ensures.undecided ∙ now.undecided ∙ ap (λ n. undecided (n + n)) (sym grows.tables.width);
      passed = below_more _ _ now.passed
          (pair_holds q cert c.args.action_pass.now.action k (tested_pair_of (nodes_of cert) p) (tested_at cert k p at)
          f);
    }

pub returns-clause-first : goal.returns-clause-first
returns-clause-first c = none_fails c.args.pass.now.problem c.args.pass.now.cert c.args.action_pass.now.action (λ k low. c.loop-pair.invariant.passed k (omega (arith, low, c.loop-pair-test.false, ap length (c.pairs-sets-items.ensures.value ∙ ap (λ (z : PassParts). z.cert.pairs) c.pass.view_is))))

pub returns-in_err-values-clause-grows : goal.returns-in_err-values-clause-grows
returns-in_err-values-clause-grows c = passes_trans c.args.pass.now c.loop-pair.pass c.pair_failure.new.pass c.loop-pair.invariant.grows c.pair_failure.ensures.grows

pub returns-in_err-place-clause-grows : goal.returns-in_err-place-clause-grows
returns-in_err-place-clause-grows c = passes_trans c.args.pass.now c.loop-pair.pass c.pair_failure.new.pass c.loop-pair.invariant.grows c.pair_failure.ensures.grows

pub returns-clause-grows : goal.returns-clause-grows
returns-clause-grows c = c.loop-pair.invariant.grows
