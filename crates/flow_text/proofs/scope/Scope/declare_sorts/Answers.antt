use Rattle.std.proofs.Common.{Err, ap, ◌∙◌}
use Rattle.std.proofs.lemmas.Result.{err_from_is_err_and}
use Rattle.text_parser.specs.declared.fault.TextFault.{TextFault}
use Rattle.text_parser.specs.TokenParts.{parts_of_token}
use Rattle.flow_text.specs.Scopes.{ScopeParts, with_sort, sorts_declared}
use Rattle.flow_text.specs.ScopeViews.{scope_parts}
use Rattle.flow_syntax.specs.SyntaxViews.{tokens_syntax}
use Rattle.flow_syntax.proofs.Stacked.{tokens_none}
use Rattle.flow_text.proofs.LastTaken.{kept, left_at, ended}
use Rattle.flow_text.proofs.ProgramResults.{fault_done}
use Rattle.flow_text.proofs.Declared.{sort_declared, sort_refused}
use Rattle.flow_text.proofs.scope.Scope.declare_sorts.Goals as goal

pub names-preserved : goal.names-preserved
names-preserved c =
    let s = scope_parts c.names.self in
    let now = scope_parts c.declare_sort.new.self in
    let before = c.in-Some.field-0-1.now in
    kept sorts_declared tokens_syntax s now c.names.rest.now before c.in-Some.name.now (sorts_declared (scope_parts c.args.self.now) (tokens_syntax c.args.names.now)) c.in-Some.ensures.cases.0
    (sort_declared s now before c.in-Some.name.now c.in_ok-declare_sort.ensures) c.names.invariant

pub returns-in_err-declare_sort : goal.returns-in_err-declare_sort
returns-in_err-declare_sort c =
    let s = scope_parts c.names.self in
    let now = scope_parts c.declare_sort.new.self in
    let before = c.in-Some.field-0-1.now in
    let fault = c.in_err-declare_sort.field-0.0 in
    let whole = sorts_declared (scope_parts c.args.self.now) (tokens_syntax c.args.names.now) in
    let answer = err_from_is_err_and c.from_residual.result c.from_residual.ensures.1 in
    fault_done ScopeParts ScopeParts (Unit {0}) (Unit {0}) now now c.from_residual.result fault (with_sort s (parts_of_token c.in-Some.name.now)) whole (answer.1 ∙ ap (λ (f : TextFault). Err f) answer.2) c.in_err-declare_sort.ensures
    (λ fails. left_at sorts_declared tokens_syntax s c.names.rest.now before c.in-Some.name.now whole (Err fault) c.in-Some.ensures.cases.0
    (sort_refused s fault before c.in-Some.name.now fails) c.names.invariant)

pub returns : goal.returns
returns c =
    ended sorts_declared tokens_syntax (scope_parts c.names.self) c.names.rest.now (sorts_declared (scope_parts c.args.self.now) (tokens_syntax c.args.names.now)) c.in_default.ensures.cases tokens_none c.names.invariant
