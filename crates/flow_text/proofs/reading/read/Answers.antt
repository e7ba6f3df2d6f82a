use Rattle.std.proofs.Common.{◌≡◌, List, ℕ, Result, Err, IfErr, inr, sym, subst, ap, ◌∙◌}
use Rattle.std.proofs.lemmas.Result.{err_from_is_err_and}
use Rattle.text_parser.specs.declared.fault.TextFault.{TextFault}
use Rattle.text_parser.specs.declared.fault.TextFault.TheVariants.{NoMemory}
use Rattle.flow_text.specs.declared.reading.FlowFile.{FlowFile}
use Rattle.flow_text.specs.Texts.{IsFlowText, no_text, Answers}
use Rattle.flow_text.proofs.OneAnswer.{only_memory}
use Rattle.flow_text.proofs.reading.read.Goals as goal

pub returns-in_err-text-clause-answers : goal.returns-in_err-text-clause-answers
returns-in_err-text-clause-answers c =
    let answer = err_from_is_err_and c.from_residual.result c.from_residual.ensures.1 in
    subst (Answers c.args.bytes.now) (sym (answer.1 ∙ ap (λ (f : TextFault). Err f) answer.2)) (inr (no_text c.in_err-text.ensures.fault))

pub returns-in_err-text-clause-only : goal.returns-in_err-text-clause-only
returns-in_err-text-clause-only c f denotes =
    let answer = err_from_is_err_and c.from_residual.result c.from_residual.ensures.1 in
    subst (λ (r : Result FlowFile TextFault). IfErr r (λ e. e ≡ NoMemory)) (sym (answer.1 ∙ ap (λ (e : TextFault). Err e) answer.2)) (only_memory c.args.bytes.now f (Err c.in_err-text.field-0.0) denotes (inr (no_text c.in_err-text.ensures.fault)))

pub returns-clause-only : goal.returns-clause-only
returns-clause-only c f denotes = only_memory c.in_ok-text.text.now f c.read_text.result (subst (λ bytes. IsFlowText bytes f) (sym c.in_ok-text.ensures.text) denotes) c.read_text.ensures

pub returns-clause-answers : goal.returns-clause-answers
returns-clause-answers c = subst (λ (bytes : List ℕ). Answers bytes c.read_text.result) c.in_ok-text.ensures.text c.read_text.ensures
