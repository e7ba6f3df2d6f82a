use Rattle.std.proofs.Common.{◌≡◌, ◌⊎◌, Ok, Err, sym, subst, ap, ◌∙◌}
use Rattle.std.proofs.lemmas.Result.{err_from_is_err_and}
use Rattle.text_parser.specs.declared.fault.TextFault.{TextFault}
use Rattle.text_parser.specs.declared.fault.TextFault.TheVariants.{NoMemory}
use Rattle.text_parser.specs.TokenParts.{parts_of_tokens}
use Rattle.text_parser.specs.Lexemes.{lexemes}
use Rattle.text_parser.specs.Parsed.{Makes}
use Rattle.text_parser.specs.ScopeParts.{ScopeParts}
use Rattle.chain_rules.specs.Chains.{ChainTree}
use Rattle.problem_file.proofs.TextAnswers.{bad_given, fault_given}
use Rattle.problem_file.specs.NumberedScopes.{numbered_scope}
use Rattle.chain_proofs.specs.Reads.{FirstFault, tested, Answers}
use Rattle.chain_proofs.proofs.ReadTexts.{chain_given}
use Rattle.chain_proofs.proofs.reading.read_text.Goals as goal

pub returns-in_err-toks : goal.returns-in_err-toks
returns-in_err-toks c =
    let answer = err_from_is_err_and c.from_residual.result c.from_residual.ensures.1 in
    subst (Answers c.args.tests c.args.actions c.args.text.now) (sym (answer.1 ∙ ap (λ (f : TextFault). Err f) answer.2)) (bad_given (tested (numbered_scope c.args.tests c.args.actions)) c.args.text.now c.in_err-toks.field-0.0 c.in_err-toks.ensures.bad)

pub returns-in-Ok : goal.returns-in-Ok
returns-in-Ok c =
    chain_given c.args.tests c.args.actions c.in_ok-scope.scope c.args.text.now c.in_ok-toks.toks.items c.in-Ok.chain c.in_ok-scope.ensures c.in_ok-toks.ensures.read
    (subst (λ ts. tested c.in_ok-scope.scope (lexemes ts) ≡ Ok c.in-Ok.chain) c.deref.ensures.value c.in-Ok.ensures)

pub returns : goal.returns
returns c =
    let scope = numbered_scope c.args.tests c.args.actions in
    subst (λ (e : TextFault). (e ≡ NoMemory) ⊎ FirstFault c.args.tests c.args.actions c.args.text.now e) (sym c.fault_in_text.ensures)
    (fault_given (tested scope) c.args.text.now (λ (x : ChainTree). x) (parts_of_tokens c.in_ok-toks.toks.items) c.in-Err.fault c.in_ok-toks.ensures.read
    (subst (λ (w : ScopeParts). Makes (Unit {0}) (λ (x : ChainTree). x) (Err c.in-Err.fault) (tested w (lexemes c.in_ok-toks.toks.items))) c.in_ok-scope.ensures
    (subst (λ ts. Makes (Unit {0}) (λ (x : ChainTree). x) (Err c.in-Err.fault) (tested c.in_ok-scope.scope (lexemes ts))) c.deref.ensures.value c.in-Err.ensures)))
