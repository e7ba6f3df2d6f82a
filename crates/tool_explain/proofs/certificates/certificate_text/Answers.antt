use Rattle.std.proofs.Common.{List, Bool, ℕ, ◌++◌, map, subst, ap, ◌∙◌}
use Rattle.kat_model.specs.Trees.{kat_tree}
use Rattle.kat_model.specs.Problems.{ProblemParts}
use Rattle.abstraction.specs.Abstracts.{AbstractParts}
use Rattle.abstraction.specs.declared.rule.Rule.{Rule}
use Rattle.certificate.specs.declared.evidence.Evidence.TheVariants.{Equal}
use Rattle.cert_checker.specs.Answers.{Shows}
use Rattle.tool_explain.specs.Used.{marked, with_marked}
use Rattle.tool_explain.specs.Certificates.{certificate_text}
use Rattle.tool_explain.proofs.UsedTexts.{used_written}
use Rattle.tool_explain.proofs.certificates.certificate_text.Goals as goal

pub returns : goal.returns
returns c =
    let f = c.args.file.now in
    let a = c.args.shown.now in
    let cert = c.args.cert.now in
    let used = c.in_ok-marks.marks.items in
    let rules = c.deref-4.ensures.value ∙ c.in_ok-rules.ensures ∙ ap (λ (ms : List Bool). marked ms c.deref.result.now) c.deref-2.ensures.value
    ∙ ap (λ (rs : List Rule). marked used rs) (c.deref.ensures.value ∙ ap (λ (b : AbstractParts). b.rules) c.shown.view_is) in
    let hyps = ap (map kat_tree) c.deref-5.ensures.value ∙ c.in_ok-hyps.ensures ∙ ap (λ (ms : List Bool). marked ms c.shown.inside.problem.hyps) c.deref-3.ensures.value
    ∙ ap (λ (b : AbstractParts). marked used b.problem.hyps) c.shown.view_is in
    let text = used_written f a cert used c.deref-4.result.now c.deref-5.result.now rules hyps in
    record {
      used = used;
      alone = subst (λ (q : ProblemParts). Shows (with_marked q used) (Equal cert)) (ap (λ (b : AbstractParts). b.problem) c.shown.view_is)
          (subst (Shows (with_marked c.shown.inside.problem used)) c.requires.cert c.in_ok-marks.ensures);
      printed = c.in_ok-put_certificate.ensures ∙ ap (λ (l : List ℕ). c.new-out.result.items ++ l) text ∙ ap (λ (l : List ℕ). l ++ certificate_text f a cert used) c.new-out.ensures.items;
    }
