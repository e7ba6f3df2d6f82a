use Rattle.std.proofs.Common.{◌≡◌, ◌<◌, IfSome, sym, subst}
use Rattle.kat_model.specs.Members.{Has}
use Rattle.term_nodes.specs.declared.TestNode.TheVariants.{Prim}
use Rattle.term_nodes.specs.declared.TermNode.TheVariants.{Act}
use Rattle.certificate.specs.declared.nodes.Style.TheVariants.{Under}
use Rattle.cert_checker.specs.Ranges.{IsFirstOut}
use Rattle.cert_checker.specs.Working.Relevant.{HasFewerHyps}
use Rattle.cert_checker.proofs.FirstReasons.{first_term}
use Rattle.cert_checker.proofs.FewerHyps.{accepted_by_fewer}
use Rattle.cert_checker.proofs.checking.cert_reason.Goals as goal

pub returns-in-Some-action_out : goal.returns-in-Some-action_out
returns-in-Some-action_out c =
    let q = c.args.problem.now in
    let cert = c.args.cert.now in
    first_term q cert
    (λ i h. subst (λ n. i < n) c.tests.ensures.value (c.in_default.ensures i (subst (λ l. Has l (Prim i)) (sym c.test_nodes.ensures.value) h)))
    c.in-Some-action_out.k
    (subst (λ n. IsFirstOut Act n cert.term_nodes c.in-Some-action_out.k) c.actions.ensures.value
    (subst (λ l. IsFirstOut Act c.actions.result l c.in-Some-action_out.k) c.term_nodes.ensures.value c.in-Some-action_out.ensures))

pub returns-then-is_none : goal.returns-then-is_none
returns-then-is_none c =
    let q = c.args.problem.now in
    let cert = c.args.cert.now in
    let under : cert.style ≡ Under = cc (c.style.ensures.value, c.in-Under-Some.is-0) in
    let fewer = subst (λ o. IfSome o (HasFewerHyps q)) c.in-Under-Some.is-1 c.in_ok-fewer.ensures in
    accepted_by_fewer q c.in-Under-Some.fewer cert c.in_ok-pairs_reason.field-0 _ fewer under c.in_ok-pairs_reason.ensures c.is_none.ensures c.if-is_none.true
