use Rattle.std.proofs.Common.{◌≡◌, ◌⊎◌, Ok, Err, sym, subst, ap, ◌∙◌}
use Rattle.std.proofs.lemmas.Result.{err_from_is_err_and}
use Rattle.text_parser.specs.declared.fault.TextFault.{TextFault}
use Rattle.text_parser.specs.declared.fault.TextFault.TheVariants.{NoMemory}
use Rattle.text_parser.specs.TokenParts.{parts_of_tokens}
use Rattle.text_parser.specs.Lexemes.{lexemes}
use Rattle.text_parser.specs.Parsed.{Makes}
use Rattle.problem_file.specs.Tokens.{AreTokens}
use Rattle.problem_file.specs.Working.Files.{AnswersFor}
use Rattle.problem_file.specs.Reads.{HasFirstFault, tested}
use Rattle.problem_file.proofs.TextAnswers.{bad_given, fault_given}
use Rattle.problem_file.proofs.ReadTexts.{with_trees, lexed_tokens, file_given}
use Rattle.problem_file.proofs.reading.read_text.Goals as goal

pub returns-in_err-toks : goal.returns-in_err-toks
returns-in_err-toks c =
    let answer = err_from_is_err_and c.from_residual.result c.from_residual.ensures.1 in
    subst (AnswersFor c.args.limit c.args.text.now) (sym (answer.1 ∙ ap (λ (f : TextFault). Err f) answer.2)) (bad_given (tested c.args.limit) c.args.text.now c.in_err-toks.field-0.0 c.in_err-toks.ensures.bad)

pub test-requires : goal.test-requires
test-requires c = record { tokens = subst AreTokens (sym c.deref.ensures.value) (lexed_tokens c.args.text.now c.in_ok-toks.toks.items c.in_ok-toks.ensures.read) }

pub returns-in-Ok : goal.returns-in-Ok
returns-in-Ok c =
    file_given c.args.limit c.args.text.now c.in_ok-toks.toks.items c.in-Ok.files c.in_ok-toks.ensures.read
    (subst (λ ts. Makes (Unit {0}) with_trees (Ok c.in-Ok.files) (tested c.args.limit (lexemes ts))) c.deref.ensures.value c.in-Ok.ensures)

pub returns : goal.returns
returns c =
    subst (λ (e : TextFault). (e ≡ NoMemory) ⊎ HasFirstFault c.args.limit c.args.text.now e) (sym c.fault_in_text.ensures)
    (fault_given (tested c.args.limit) c.args.text.now with_trees (parts_of_tokens c.in_ok-toks.toks.items) c.in-Err.fault c.in_ok-toks.ensures.read
    (subst (λ ts. Makes (Unit {0}) with_trees (Err c.in-Err.fault) (tested c.args.limit (lexemes ts))) c.deref.ensures.value c.in-Err.ensures))
