use Rattle.std.proofs.Common.{◌≡◌, ◌-◌, List, [], ◌∷◌, ◌++◌, length, take, Option, sym, ap, subst, ◌∙◌}
use Rattle.std.proofs.lemmas.List.{append-nil}
use Rattle.flow_model.specs.declared.sort.Sort.{Sort}
use Rattle.flow_syntax.specs.Syntax.{ExprSyntax}
use Rattle.flow_syntax.specs.Actions.{first_name}
use Rattle.flow_text.specs.Resolving.{sort_of_first}
use Rattle.flow_text.specs.Checking.{named_sorts}
use Rattle.flow_text.specs.ScopeViews.{sight_parts}
use Rattle.flow_syntax.specs.SyntaxViews.{expr_syntax, exprs_syntax}
use Rattle.flow_syntax.proofs.Stacked.{exprs_none}
use Rattle.flow_text.proofs.LastTaken.{kept, ended}
use Rattle.flow_text.proofs.ResultSteps.{named_more}
use Rattle.flow_text.proofs.results.named_sorts.Goals as goal

pub exprs-preserved : goal.exprs-preserved
exprs-preserved c =
    let s = sight_parts c.args.visible_names.now in
    let made = c.exprs.known.items in
    let rest = c.exprs.rest.now in
    let before = c.in-Some.field-0-1.now in
    let x = c.sort_of_first.result in
    let whole = named_sorts s (exprs_syntax c.args.exprs.now) in
    subst (λ (l : List (Option Sort)). l ++ named_sorts s (exprs_syntax (take (length rest - 1) rest)) ≡ whole) (sym c.in_ok-append.ensures)
    (kept (λ (l : List (Option Sort)) (es : List ExprSyntax). l ++ named_sorts s es) exprs_syntax made (made ++ x ∷ []) rest before c.in-Some.expr.now whole c.in-Some.ensures.cases.0
    (named_more s made before c.in-Some.expr.now x (c.sort_of_first.ensures ∙ ap (sort_of_first s) (c.first_name.ensures ∙ ap (λ l. first_name (expr_syntax l)) c.deref.ensures.value))) c.exprs.invariant)

pub returns : goal.returns
returns c =
    let s = sight_parts c.args.visible_names.now in
    sym (append-nil c.exprs.known.items)
    ∙ sym (ended (λ (l : List (Option Sort)) (es : List ExprSyntax). l ++ named_sorts s es) exprs_syntax c.exprs.known.items c.exprs.rest.now (named_sorts s (exprs_syntax c.args.exprs.now)) c.in_default.ensures.cases exprs_none c.exprs.invariant)
