use Rattle.std.proofs.Common.{subst}
use Rattle.std.specs.Option.{MatchOption}
use Rattle.cert_checker.specs.Answers.{Shows, IsFoundBy}
use Rattle.cert_checker.proofs.OneAnswer.{found_not_shown, shown_so}
use Rattle.cert_checker.proofs.checking.check.Goals as goal

pub returns-in-Some-clause-accepted : goal.returns-in-Some-clause-accepted
returns-in-Some-clause-accepted c =
    let q = c.args.problem.now in
    let e = c.args.evidence.now in
    let found = subst (λ o. MatchOption o (Shows q e) (λ r. IsFoundBy q e r)) c.in-Some.is c.in_ok-first_reason.ensures in
    ((λ h. absurd cc), (λ s. absurd (found_not_shown q e c.in-Some.reason found s)))

pub returns-in-Some-clause-answer : goal.returns-in-Some-clause-answer
returns-in-Some-clause-answer c =
    let q = c.args.problem.now in
    let e = c.args.evidence.now in
    let found = subst (λ o. MatchOption o (Shows q e) (λ r. IsFoundBy q e r)) c.in-Some.is c.in_ok-first_reason.ensures in
    ((λ s. found_not_shown q e c.in-Some.reason found s), found)

pub returns-in-None-clause-shown : goal.returns-in-None-clause-shown
returns-in-None-clause-shown c accepted =
    let q = c.args.problem.now in
    let e = c.args.evidence.now in
    shown_so q e (subst (λ o. MatchOption o (Shows q e) (λ r. IsFoundBy q e r)) c.in-None.is c.in_ok-first_reason.ensures)

pub returns-in-Some-clause-shown : goal.returns-in-Some-clause-shown
returns-in-Some-clause-shown c accepted = absurd cc
