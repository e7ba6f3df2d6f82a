use Rattle.std.proofs.Common.{◌≡◌, ◌-◌, List, [], ◌∷◌, ◌++◌, length, take, Err, sym, ap, subst, ◌∙◌, arith}
use Rattle.std.specs.Prelude.{Vec}
use Rattle.std.specs.declared.alloc.Global.{Global}
use Rattle.std.proofs.lemmas.Result.{err_from_is_err_and}
use Rattle.text_parser.specs.declared.fault.TextFault.{TextFault}
use Rattle.flow_model.specs.declared.sort.Sort.{Sort}
use Rattle.flow_text.specs.Scopes.{parameters_after}
use Rattle.flow_text.specs.ScopeViews.{scope_parts}
use Rattle.flow_syntax.specs.SyntaxViews.{tokens_syntax}
use Rattle.flow_syntax.proofs.Stacked.{tokens_none}
use Rattle.flow_text.proofs.LastTaken.{kept, left_at, ended}
use Rattle.flow_text.proofs.ProgramResults.{fault_made}
use Rattle.flow_text.proofs.KnownSteps.{parameter_made, parameter_refused}
use Rattle.flow_text.proofs.known.parameter_sorts.Goals as goal

pub tokens-preserved : goal.tokens-preserved
tokens-preserved c =
    let s = scope_parts c.args.scope.now in
    let made = c.tokens.sorts.items in
    let rest = c.tokens.rest.now in
    let before = c.in-Some.field-0-1.now in
    let whole = parameters_after s [] (tokens_syntax c.args.tokens.now) in
    let count : length made ≡ c.len.result = omega (arith, c.len.ensures, c.tokens.sorts.ok.0) in
    subst (λ (l : List Sort). parameters_after s l (tokens_syntax (take (length rest - 1) rest)) ≡ whole) (sym c.in_ok-append.ensures)
    (kept (parameters_after s) tokens_syntax made (made ++ c.in_ok-sort.sort ∷ []) rest before c.in-Some.token.now whole c.in-Some.ensures.cases.0
    (parameter_made s made c.len.result before c.in-Some.token.now c.in_ok-sort.sort count c.in_ok-sort.ensures) c.tokens.invariant)

pub returns-in_err-sort : goal.returns-in_err-sort
returns-in_err-sort c =
    let s = scope_parts c.args.scope.now in
    let made = c.tokens.sorts.items in
    let before = c.in-Some.field-0-1.now in
    let fault = c.in_err-sort.field-0.0 in
    let whole = parameters_after s [] (tokens_syntax c.args.tokens.now) in
    let count : length made ≡ c.len.result = omega (arith, c.len.ensures, c.tokens.sorts.ok.0) in
    let answer = err_from_is_err_and c.from_residual.result c.from_residual.ensures.1 in
    fault_made (λ (v : Vec Sort Global). v.items) c.from_residual.result fault whole (answer.1 ∙ ap (λ (f : TextFault). Err f) answer.2)
    (left_at (parameters_after s) tokens_syntax made c.tokens.rest.now before c.in-Some.token.now whole (Err fault) c.in-Some.ensures.cases.0
    (parameter_refused s made c.len.result before c.in-Some.token.now fault count c.in_err-sort.ensures) c.tokens.invariant)

pub returns : goal.returns
returns c =
    let s = scope_parts c.args.scope.now in
    ended (parameters_after s) tokens_syntax c.tokens.sorts.items c.tokens.rest.now (parameters_after s [] (tokens_syntax c.args.tokens.now)) c.in_default.ensures.cases tokens_none c.tokens.invariant
