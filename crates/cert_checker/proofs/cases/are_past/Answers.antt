use Rattle.std.proofs.Common.{sym, ap, ◌∙◌}
use Rattle.cert_checker.specs.LeastFailures.{least_of}
use Rattle.cert_checker.proofs.LeastFailures.{at_most, past_by, extends_length, least_extends}
use Rattle.cert_checker.proofs.cases.are_past.Goals as goal

pub returns-in_default : goal.returns-in_default
returns-in_default c = rw c.in_default.is tt

pub returns : goal.returns
returns c =
    let ds = c.args.decided.now in
    let most = c.in-Some.bound.now.items in
    let long = extends_length ds (least_of ds) (least_extends ds) in
    let given = past_by most (least_of ds) c.le.result ((rw c.in-Some.is at c.requires) ∙ sym long) (c.le.ensures ∙ ap (at_most most) c.in_ok-least.ensures) in
    rw c.in-Some.is given
