use Rattle.std.proofs.Common.{length, Err, sym, subst, ap, ◌∙◌}
use Rattle.std.proofs.lemmas.Result.{err_from_is_err_and}
use Rattle.text_parser.specs.declared.fault.TextFault.{TextFault}
use Rattle.text_parser.specs.TokenParts.{parts_of_tokens}
use Rattle.flow_syntax.specs.Derivations.{IsReaderFault}
use Rattle.flow_syntax.specs.declared.phrase.TheConstants.{FILE}
use Rattle.flow_syntax.specs.Marks.{marks_of}
use Rattle.flow_syntax.specs.SyntaxViews.{items_syntax}
use Rattle.flow_syntax.specs.Productions.{rules}
use Rattle.flow_syntax.specs.Spelling.{AreSpelled}
use Rattle.flow_text.specs.Texts.{Answers}
use Rattle.flow_text.proofs.OneAnswer.{bad_given, syntax_given, file_given}
use Rattle.flow_text.proofs.reading.read_text.Goals as goal

pub returns-in_err-toks : goal.returns-in_err-toks
returns-in_err-toks c =
    let answer = err_from_is_err_and c.from_residual.result c.from_residual.ensures.1 in
    subst (Answers c.args.text.now) (sym (answer.1 ∙ ap (λ (f : TextFault). Err f) answer.2)) (bad_given c.args.text.now c.in_err-toks.field-0.0 c.in_err-toks.ensures.bad)

pub returns-in_err-items : goal.returns-in_err-items
returns-in_err-items c =
    let answer = err_from_is_err_and c.from_residual-in_err-items.result c.from_residual-in_err-items.ensures.1 in
    let e = c.in_err-items.field-0.0 in
    subst (Answers c.args.text.now) (sym (answer.1 ∙ ap (λ (f : TextFault). Err f) answer.2))
    (syntax_given c.args.text.now (parts_of_tokens c.in_ok-toks.toks.items) e c.in_ok-toks.ensures.read
    (subst (λ ts. IsReaderFault rules FILE (marks_of (parts_of_tokens ts)) (length c.args.text.now) e) c.deref.ensures.value c.in_err-items.ensures.refused))

pub returns : goal.returns
returns c =
    let is = items_syntax c.in_ok-items.items.items in
    file_given c.args.text.now (parts_of_tokens c.in_ok-toks.toks.items) is c.file.result c.in_ok-toks.ensures.read
    (subst (λ ts. AreSpelled (parts_of_tokens ts) (length c.args.text.now) is) c.deref.ensures.value c.in_ok-items.ensures.read)
    c.file.ensures
