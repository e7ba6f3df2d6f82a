use Rattle.std.proofs.Common.{◌≡◌, ℕ, ◌-◌, List, [], ◌∷◌, ◌++◌, length, take, Err, sym, ap, subst, ◌∙◌}
use Rattle.std.specs.Prelude.{Vec}
use Rattle.std.specs.declared.alloc.Global.{Global}
use Rattle.std.proofs.lemmas.Result.{err_from_is_err_and}
use Rattle.text_parser.specs.declared.fault.TextFault.{TextFault}
use Rattle.text_parser.specs.TokenParts.{parts_of_token}
use Rattle.flow_model.specs.declared.sort.Sort.{Sort}
use Rattle.flow_text.specs.Checking.{next_target, targets_after}
use Rattle.flow_text.specs.ScopeViews.{sight_parts}
use Rattle.flow_syntax.specs.SyntaxViews.{tokens_syntax}
use Rattle.flow_syntax.proofs.Stacked.{tokens_none}
use Rattle.flow_text.proofs.LastTaken.{kept, left_at, ended}
use Rattle.flow_text.proofs.ProgramResults.{fault_made}
use Rattle.flow_text.proofs.Checked.{target_made, target_refused}
use Rattle.flow_text.proofs.check.targets.Goals as goal

pub names-preserved : goal.names-preserved
names-preserved c =
    let s = sight_parts c.args.visible_names.now in
    let made = c.names.targets.items in
    let rest = c.names.rest.now in
    let before = c.in-Some.field-0-1.now in
    let whole = targets_after s [] (tokens_syntax c.args.names.now) in
    subst (λ (l : List (ℕ × Sort)). targets_after s l (tokens_syntax (take (length rest - 1) rest)) ≡ whole) (sym c.in_ok-append.ensures)
    (kept (targets_after s) tokens_syntax made (made ++ c.in_ok-target.target ∷ []) rest before c.in-Some.name.now whole c.in-Some.ensures.cases.0
    (target_made s made before c.in-Some.name.now c.in_ok-target.target (c.in_ok-target.ensures ∙ ap (λ l. next_target s l (parts_of_token c.in-Some.name.now)) c.deref.ensures.value)) c.names.invariant)

pub returns-in_err-target : goal.returns-in_err-target
returns-in_err-target c =
    let s = sight_parts c.args.visible_names.now in
    let made = c.names.targets.items in
    let before = c.in-Some.field-0-1.now in
    let fault = c.in_err-target.field-0.0 in
    let whole = targets_after s [] (tokens_syntax c.args.names.now) in
    let answer = err_from_is_err_and c.from_residual.result c.from_residual.ensures.1 in
    fault_made (λ (v : Vec (ℕ × Sort) Global). v.items) c.from_residual.result fault whole (answer.1 ∙ ap (λ (f : TextFault). Err f) answer.2)
    (left_at (targets_after s) tokens_syntax made c.names.rest.now before c.in-Some.name.now whole (Err fault) c.in-Some.ensures.cases.0
    (target_refused s made before c.in-Some.name.now fault (c.in_err-target.ensures ∙ ap (λ l. next_target s l (parts_of_token c.in-Some.name.now)) c.deref.ensures.value)) c.names.invariant)

pub returns : goal.returns
returns c =
    let s = sight_parts c.args.visible_names.now in
    ended (targets_after s) tokens_syntax c.names.targets.items c.names.rest.now (targets_after s [] (tokens_syntax c.args.names.now)) c.in_default.ensures.cases tokens_none c.names.invariant
