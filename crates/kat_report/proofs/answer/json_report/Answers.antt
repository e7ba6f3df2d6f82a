use Rattle.std.proofs.Common.{◌≡◌, List, ℕ, ◌++◌, ◌∷◌, [], length, string_bytes, sym, ap, ◌∙◌, refl}
use Rattle.std.proofs.lemmas.List.{length-map}
use Rattle.serde_json.specs.View.{view}
use Rattle.serde_json.specs.Written.{compact_text}
use Rattle.kat_model.specs.Trees.{kat_tree}
use Rattle.certificate.specs.Texts.{text_of}
use Rattle.kat_report.specs.Reports.{answer_name, evidence_size}
use Rattle.kat_report.specs.Working.JsonValues.{report_value}
use Rattle.kat_report.proofs.JsonTexts.{report_line}
use Rattle.kat_report.proofs.answer.json_report.Goals as goal

pub returns : goal.returns
returns c =
    let q = c.args.problem.now in
    let e = c.args.evidence.now in
    let evidence : c.as_str.result.now ≡ text_of e = c.as_str.ensures.value ∙ c.in_ok-text.ensures in
    let hyps : length c.hyps.result.now ≡ length q.hyps = sym (length-map c.hyps.result.now kat_tree) ∙ ap (λ l. length l) c.hyps.ensures.value in
    let same : view c.in_ok-report.report ≡ report_value (answer_name e) (text_of e) (length q.hyps) (evidence_size e) =
    c.in_ok-report.ensures ∙ rw (c.answer_name.ensures, evidence, hyps, c.evidence_size.ensures) refl in
    let shown : string_bytes c.in_ok-to_string.field-0 ≡ compact_text (report_value (answer_name e) (text_of e) (length q.hyps) (evidence_size e)) =
    c.in_ok-to_string.ensures.text (rw same refl) ∙ ap compact_text same in
    c.in_ok-push.ensures.items ∙ ap (λ l. l ++ 10 ∷ []) (ap (λ v. v.items) c.into_bytes-line.ensures.value ∙ shown) ∙ report_line q e
