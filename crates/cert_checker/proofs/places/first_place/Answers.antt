use Rattle.std.proofs.Common.{◌≡◌, ◌<◌, ◌+◌, suc, subst, arith}
use Rattle.std.specs.Option.{option_map}
use Rattle.cert_checker.specs.Passes.{PassParts}
use Rattle.cert_checker.specs.Working.Places.{IsFirstOf, place_reason}
use Rattle.cert_checker.proofs.EarlierPlaces.{least_first}
use Rattle.cert_checker.proofs.PairPlaces.{first_of_same}
use Rattle.cert_checker.proofs.Passes.{pass_kept, passes_trans}
use Rattle.cert_checker.proofs.places.first_place.Goals as goal

pub loop-action-init : goal.loop-action-init
loop-action-init c =
    let p = c.args.pass.now in
    let new = c.first_failure.new.pass in
    record {
      pass = pass_kept p new c.first_failure.ensures.grows c.requires;
      grows = c.first_failure.ensures.grows;
      place = first_of_same p.problem p.cert (λ n. n ≡ 0) (λ n. n < 0 + 1) _ (λ n. ((λ e. omega (arith, e)), (λ l. omega (arith, l)))) c.in_ok-place.ensures.first;
    }

pub loop-action-preserved : goal.loop-action-preserved
loop-action-preserved c =
    let p = c.args.pass.now in
    let now = c.loop-action.invariant in
    let a = c.loop-action.action in
    let new = c.first_failure-in-loop-action.new.pass in
    let other = subst (λ (z : PassParts). IsFirstOf z.problem z.cert (λ n. n ≡ a + 1) (option_map (place_reason z.cert.style) c.in_ok-first_failure.field-0)) now.grows.same c.in_ok-first_failure.ensures.first in
    record {
      pass = pass_kept c.loop-action.pass new c.first_failure-in-loop-action.ensures.grows now.pass;
      grows = passes_trans p c.loop-action.pass new now.grows c.first_failure-in-loop-action.ensures.grows;
      place = first_of_same p.problem p.cert (λ n. n < suc (a + 1)) (λ n. n < a + 1 + 1) _ (λ n. ((λ l. omega (arith, l)), (λ l. omega (arith, l))))
          (least_first p.problem p.cert p.cert.style (a + 1) c.loop-action.place c.in_ok-first_failure.field-0 c.least_place-place.result now.place other c.least_place-place.ensures);
    }
