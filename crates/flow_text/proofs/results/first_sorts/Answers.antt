use Rattle.std.proofs.Common.{◌<◌, ◌≤◌, length, None, ap, ◌∙◌, arith}
use Rattle.std.proofs.lemmas.List.{set-get_or}
use Rattle.flow_syntax.specs.Actions.{first_name}
use Rattle.flow_text.specs.Resolving.{sort_of_first}
use Rattle.flow_text.specs.Checking.{first_sort, first_sorts}
use Rattle.flow_text.specs.ScopeViews.{sight_parts}
use Rattle.flow_syntax.specs.SyntaxViews.{expr_syntax, exprs_syntax}
use Rattle.flow_text.proofs.ResultSteps.{sort_set, no_expression, no_place}
use Rattle.flow_text.proofs.results.first_sorts.Goals as goal

pub loop-sort-preserved : goal.loop-sort-preserved
loop-sort-preserved c =
    let s = sight_parts c.args.visible_names.now in
    let whole = first_sorts s c.args.sorts.now (exprs_syntax c.args.exprs.now) in
    let lt : c.loop-sort.sort-index < length c.loop-sort.sorts = omega arith in
    sort_set s c.loop-sort.sorts c.loop-sort.sort-index _ c.first_sort.result c.loop-sort.rest.now c.in-Some.field-0-1.now c.in-Some.expr.now whole lt c.in-Some.ensures.cases.0
    (c.first_sort.ensures ∙ ap (first_sort _) (c.sort_of_first.ensures ∙ ap (sort_of_first s) (c.first_name.ensures ∙ ap (λ l. first_name (expr_syntax l)) c.deref.ensures.value))) c.loop-sort.invariant

pub returns-in_default : goal.returns-in_default
returns-in_default c =
    let s = sight_parts c.args.visible_names.now in
    set-get_or c.loop-sort.sorts c.loop-sort.sort-index None
    ∙ no_expression s c.loop-sort.sorts c.loop-sort.sort-index c.loop-sort.rest.now (first_sorts s c.args.sorts.now (exprs_syntax c.args.exprs.now)) c.in_default.ensures.cases c.loop-sort.invariant

pub returns : goal.returns
returns c =
    let s = sight_parts c.args.visible_names.now in
    let past : length c.loop-sort.sorts ≤ c.loop-sort.sort-index = omega arith in
    no_place s c.loop-sort.sorts c.loop-sort.sort-index (exprs_syntax c.loop-sort.rest.now) (first_sorts s c.args.sorts.now (exprs_syntax c.args.exprs.now)) past c.loop-sort.invariant
