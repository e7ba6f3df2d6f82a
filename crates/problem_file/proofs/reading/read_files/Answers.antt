use Rattle.std.proofs.Common.{List, ℕ, Err, inr, sym, subst, ap, ◌∙◌}
use Rattle.std.proofs.lemmas.Result.{err_from_is_err_and}
use Rattle.text_parser.specs.declared.fault.TextFault.{TextFault}
use Rattle.problem_file.specs.FirstFaults.{no_text}
use Rattle.problem_file.specs.Working.Files.{AnswersFor}
use Rattle.problem_file.proofs.reading.read_files.Goals as goal

pub returns-in_err-text : goal.returns-in_err-text
returns-in_err-text c =
    let answer = err_from_is_err_and c.from_residual.result c.from_residual.ensures.1 in
    subst (AnswersFor c.args.limit c.args.bytes.now) (sym (answer.1 ∙ ap (λ (f : TextFault). Err f) answer.2)) (inr (no_text c.in_err-text.ensures.fault))

pub returns : goal.returns
returns c = subst (λ (bs : List ℕ). AnswersFor c.args.limit bs c.read_text.result) c.in_ok-text.ensures.text c.read_text.ensures
