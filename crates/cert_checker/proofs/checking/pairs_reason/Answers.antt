use Rattle.std.proofs.Common.{◌<◌, IfOk, sym, ap, ◌∙◌, subst}
use Rattle.std.specs.Option.{MatchOption}
use Rattle.kat_model.specs.Members.{Has}
use Rattle.kat_model.specs.Problems.{ProblemParts}
use Rattle.term_nodes.specs.declared.TestNode.TheVariants.{Prim}
use Rattle.term_nodes.specs.declared.TermNode.TheVariants.{Act}
use Rattle.certificate.specs.Certs.{CertParts}
use Rattle.certificate.specs.Accepted.{IsAccepted}
use Rattle.cert_checker.specs.Answers.{FailsFirstBy}
use Rattle.cert_checker.specs.Indices.{AreIndexed}
use Rattle.cert_checker.proofs.checking.pairs_reason.Goals as goal

pub of-requires-2-clause-index : goal.of-requires-2-clause-index
of-requires-2-clause-index c = subst (AreIndexed c.in_ok-index.index) c.pairs.ensures.value c.in_ok-index.ensures

pub pass_reason-requires : goal.pass_reason-requires
pass_reason-requires c =
    let of = c.in_ok-pass.ensures.of in
    record {
      pass = c.in_ok-pass.ensures.pass;
      style = c.style.ensures.value ∙ ap (λ (d : CertParts). d.style) (sym of.1);
      tests = λ k h. subst (λ (z : ProblemParts). k < z.tests) (sym of.0) (c.requires.tests k (subst (λ (d : CertParts). Has d.test_nodes (Prim k)) of.1 h));
      actions = λ a h. subst (λ (z : ProblemParts). a < z.actions) (sym of.0) (c.requires.actions a (subst (λ (d : CertParts). Has d.term_nodes (Act a)) of.1 h));
    }

pub returns : goal.returns
returns c =
    let q = c.args.problem.now in
    let pass = c.in_ok-pass.pass in
    let of = c.in_ok-pass.ensures.of in
    subst (λ (d : CertParts). IfOk c.pass_reason.result (λ o. MatchOption o (IsAccepted q d) (λ r. FailsFirstBy q d r))) of.1
    (subst (λ (z : ProblemParts). IfOk c.pass_reason.result (λ o. MatchOption o (IsAccepted z pass.cert) (λ r. FailsFirstBy z pass.cert r))) of.0 c.pass_reason.ensures)
