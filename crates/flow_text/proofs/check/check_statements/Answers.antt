use Rattle.std.proofs.Common.{◌≡◌, ◌-◌, List, [], ◌∷◌, ◌++◌, length, take, map, Err, sym, ap, subst, ◌∙◌}
use Rattle.std.specs.Prelude.{Vec}
use Rattle.std.specs.declared.alloc.Global.{Global}
use Rattle.std.proofs.lemmas.Result.{err_from_is_err_and}
use Rattle.text_parser.specs.declared.fault.TextFault.{TextFault}
use Rattle.flow_model.specs.declared.graph.Statement.{Statement}
use Rattle.flow_text.specs.Trees.{statement_of}
use Rattle.flow_text.specs.Checking as checking
use Rattle.flow_text.specs.Checking.{statements_after}
use Rattle.flow_text.specs.ScopeViews.{sight_parts}
use Rattle.flow_syntax.specs.SyntaxViews.{statement_syntax, statements_syntax}
use Rattle.flow_syntax.proofs.Stacked.{statements_none}
use Rattle.flow_text.proofs.LastTaken.{kept, left_at, ended}
use Rattle.flow_text.proofs.ProgramResults.{fault_seen}
use Rattle.flow_text.proofs.Checked.{statement_made, statement_refused}
use Rattle.flow_text.proofs.check.check_statements.Goals as goal

pub statements-preserved : goal.statements-preserved
statements-preserved c =
    let s = sight_parts c.args.visible_names.now in
    let made = c.statements.checked.items in
    let rest = c.statements.rest.now in
    let before = c.in-Some.field-0-1.now in
    let next = made ++ c.in_ok-statement.statement ∷ [] in
    let whole = statements_after s [] (statements_syntax c.args.statements.now) in
    subst (λ (l : List Statement). statements_after s (map statement_of l) (statements_syntax (take (length rest - 1) rest)) ≡ whole) (sym c.in_ok-append.ensures)
    (kept (statements_after s) statements_syntax (map statement_of made) (map statement_of next) rest before c.in-Some.statement.now whole c.in-Some.ensures.cases.0
    (statement_made s made before c.in-Some.statement.now c.in_ok-statement.statement c.in_ok-statement.ensures) c.statements.invariant)

pub returns-in_err-statement : goal.returns-in_err-statement
returns-in_err-statement c =
    let s = sight_parts c.args.visible_names.now in
    let made = map statement_of c.statements.checked.items in
    let before = c.in-Some.field-0-1.now in
    let fault = c.in_err-statement.field-0.0 in
    let whole = statements_after s [] (statements_syntax c.args.statements.now) in
    let answer = err_from_is_err_and c.from_residual.result c.from_residual.ensures.1 in
    fault_seen (λ (v : Vec Statement Global). map statement_of v.items) statement_of c.from_residual.result fault (checking.statement_of s (statement_syntax c.in-Some.statement.now)) whole (answer.1 ∙ ap (λ (f : TextFault). Err f) answer.2) c.in_err-statement.ensures
    (λ fails. left_at (statements_after s) statements_syntax made c.statements.rest.now before c.in-Some.statement.now whole (Err fault) c.in-Some.ensures.cases.0
    (statement_refused s made before c.in-Some.statement.now fault fails) c.statements.invariant)

pub returns : goal.returns
returns c =
    let s = sight_parts c.args.visible_names.now in
    ended (statements_after s) statements_syntax (map statement_of c.statements.checked.items) c.statements.rest.now (statements_after s [] (statements_syntax c.args.statements.now)) c.in_default.ensures.cases statements_none c.statements.invariant
