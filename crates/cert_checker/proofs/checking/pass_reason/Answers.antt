use Rattle.std.proofs.Common.{◌≡◌, ◌<◌, ◌+◌, rules, sym, ap, ◌∙◌, subst}
use Rattle.std.specs.Option.{option_map, MatchOption}
use Rattle.std.proofs.lemmas.Bool.{true≢false}
use Rattle.certificate.specs.Accepted.{IsAccepted}
use Rattle.cert_checker.specs.Answers.{FailsFirstBy}
use Rattle.cert_checker.specs.Passes.{PassParts}
use Rattle.cert_checker.specs.Working.Places.{IsFirstOf, place_reason}
use Rattle.cert_checker.proofs.FirstReasons.{first_pair, pairs_given}
use Rattle.cert_checker.proofs.Passes.{pass_kept}
use Rattle.cert_checker.proofs.checking.pass_reason.Goals as goal

pub first_place-requires : goal.first_place-requires
first_place-requires c = pass_kept c.args.pass.now c.begins.new.pass c.begins.ensures.grows c.requires.pass

pub returns-then-not-branch : goal.returns-then-not-branch
returns-then-not-branch c =
    let p = c.args.pass.now in
    first_pair p.problem p.cert c.requires.tests c.requires.actions (λ b. true≢false (sym (c.in_ok-begins.ensures.begins.1 b) ∙ c.if-not-branch.true))

pub returns : goal.returns
returns c =
    let p = c.args.pass.now in
    let o = c.in_ok-place.place in
    let place = subst (λ (z : PassParts). IsFirstOf z.problem z.cert (λ n. n < z.problem.actions + 1) (option_map (place_reason z.cert.style) o)) c.begins.ensures.grows.same c.in_ok-place.ensures in
    let by_style : c.map.result ≡ option_map (place_reason c.args.style) o = search rules in
    let mapped : c.map.result ≡ option_map (place_reason p.cert.style) o = by_style ∙ ap (λ s. option_map (place_reason s) o) c.requires.style in
    subst (λ r. MatchOption r (IsAccepted p.problem p.cert) (λ x. FailsFirstBy p.problem p.cert x)) (sym mapped) (pairs_given p.problem p.cert c.requires.tests c.requires.actions (c.in_ok-begins.ensures.begins.0 c.if-not-branch.false) o place)
