use Rattle.std.proofs.Common.{◌≡◌, ◌-◌, List, [], ◌∷◌, ◌++◌, length, take, Err, sym, ap, subst, ◌∙◌}
use Rattle.std.specs.Prelude.{Vec}
use Rattle.std.specs.declared.alloc.Global.{Global}
use Rattle.std.proofs.lemmas.Result.{err_from_is_err_and}
use Rattle.text_parser.specs.declared.fault.TextFault.{TextFault}
use Rattle.flow_model.specs.declared.block_match.Equation.{Equation}
use Rattle.flow_text.specs.Checking.{next_equation, equations_after}
use Rattle.flow_text.specs.MatchViews.{equation_parts, equations_of}
use Rattle.flow_text.specs.ScopeViews.{sight_parts}
use Rattle.flow_syntax.specs.SyntaxViews.{equation_syntax, equations_syntax}
use Rattle.flow_syntax.proofs.Stacked.{equations_none}
use Rattle.flow_text.proofs.LastTaken.{kept, left_at, ended}
use Rattle.flow_text.proofs.ProgramResults.{fault_seen}
use Rattle.flow_text.proofs.MatchSteps.{equation_made, equation_refused}
use Rattle.flow_text.proofs.matches.equations.Goals as goal

pub written-preserved : goal.written-preserved
written-preserved c =
    let s = sight_parts c.args.visible_names.now in
    let made = c.written.equations.items in
    let rest = c.written.rest.now in
    let before = c.in-Some.field-0-1.now in
    let q = c.in-Some.equation.now in
    let next = made ++ c.in_ok-equation.equation ∷ [] in
    let whole = equations_after s [] (equations_syntax c.args.written.now) in
    subst (λ (l : List Equation). equations_after s (equations_of l) (equations_syntax (take (length rest - 1) rest)) ≡ whole) (sym c.in_ok-append.ensures)
    (kept (equations_after s) equations_syntax (equations_of made) (equations_of next) rest before q whole c.in-Some.ensures.cases.0
    (equation_made s made before q c.in_ok-equation.equation (ap (λ (l : List Equation). next_equation s (equations_of l) (equation_syntax q)) (sym c.deref.ensures.value) ∙ c.in_ok-equation.ensures)) c.written.invariant)

pub returns-in_err-equation : goal.returns-in_err-equation
returns-in_err-equation c =
    let s = sight_parts c.args.visible_names.now in
    let made = c.written.equations.items in
    let before = c.in-Some.field-0-1.now in
    let q = c.in-Some.equation.now in
    let fault = c.in_err-equation.field-0.0 in
    let whole = equations_after s [] (equations_syntax c.args.written.now) in
    let answer = err_from_is_err_and c.from_residual.result c.from_residual.ensures.1 in
    fault_seen (λ (v : Vec Equation Global). equations_of v.items) equation_parts c.from_residual.result fault (next_equation s (equations_of c.deref.result.now) (equation_syntax q)) whole (answer.1 ∙ ap (λ (f : TextFault). Err f) answer.2) c.in_err-equation.ensures
    (λ fails. left_at (equations_after s) equations_syntax (equations_of made) c.written.rest.now before q whole (Err fault) c.in-Some.ensures.cases.0
    (equation_refused s (equations_of made) before q fault (ap (λ (l : List Equation). next_equation s (equations_of l) (equation_syntax q)) (sym c.deref.ensures.value) ∙ fails)) c.written.invariant)

pub returns : goal.returns
returns c =
    let s = sight_parts c.args.visible_names.now in
    ended (equations_after s) equations_syntax (equations_of c.written.equations.items) c.written.rest.now (equations_after s [] (equations_syntax c.args.written.now)) c.in_default.ensures.cases equations_none c.written.invariant
